-- A whole text for each constructor of <token> and of a text, its items by the theorem on whole texts alone.
use mathlib.Core.Path.{refl}
use mathlib.Core.Bool.{Bool}
use mathlib.Core.List.{[], ◌∷◌}
use Rattle.laws.specs.Quoted.{codes, code, within}
use Rattle.laws.specs.Texts.{span, starts, begins, same}
use Rattle.chars.specs.Encode.{is_scalar, utf8, width, bytes_of}
use Rattle.digits.specs.Digits.{digit_of, sign, uinteger, value, signed, whole_of}
use Rattle.numbers.specs.Grammar.{prefix, just_of, radix_mark, starts_e, to_sign}
use Rattle.numbers.specs.Reals as bought
use Rattle.laws.specs.Letters.{lower, is_sign}
use Rattle.numbers_standard.specs.Grammar as standard
use Rattle.numbers_standard.specs.Reals as standard-real
use Rattle.items.specs.Items.{items}
use Rattle.items.specs.Meaning.{lookup, words, word_kind}
use Rattle.items.specs.Kinds as kind
use Rattle.items_r7rs.specs.Reading.{bytes, nothing}
use Rattle.items_r7rs.specs.Repeated.{done, more, some}
use Rattle.items_r7rs.specs.Delimiter.{at_end}
use Rattle.items_r7rs.specs.Boolean.{short_true}
use Rattle.items_r7rs.specs.Character.{any}
use Rattle.items_r7rs.specs.String as string
use Rattle.items_r7rs.specs.Identifier as identifier
use Rattle.items_r7rs.specs.Comment as comment
use Rattle.items_r7rs.specs.Punctuation.{open_list}
use Rattle.items_r7rs.specs.Number.{a_real, no_sign, is_integer}
use Rattle.items_r7rs.specs.Token as token
use Rattle.items_r7rs.specs.Whole.{said, no_more, space, token, tokens, first_line, only_line, AreSaid}
use Rattle.items_r7rs.proofs.Computed.{lone_no_number}
use Rattle.items_r7rs.proofs.NoNumber.{unnumbered, unslashed}
use Rattle.items_r7rs.proofs.Whole.{whole_items}

module _ (report : Bool) where
  -- nothing, and a space
  pub nothing_at_all : AreSaid [] (items report [])
  unfolding begins
  nothing_at_all = whole_items report (tokens refl no_more)

  pub a_space : AreSaid [] (items report (codes " "))
  unfolding begins
  a_space = whole_items report (tokens refl (space refl no_more))

  pub a_boolean : AreSaid (said kind.BooleanLiteral 1 0 (codes "#t") nothing ∷ []) (items report (codes "#t"))
  unfolding begins
  a_boolean = whole_items report (tokens refl (token (codes "t") [] (token.boolean short_true at_end) no_more))

  pub a_character : AreSaid (said kind.CharacterLiteral (code "a") 0 (codes "#\\a") nothing ∷ []) (items report (codes "#\\a"))
  unfolding begins is_scalar within
  a_character = whole_items report (tokens refl (token (codes "\\a") [] (token.character (any refl) at_end) no_more))

  pub a_string : AreSaid (said kind.StringLiteral 0 0 (codes "\"a\"") (bytes (bytes_of (codes "a"))) ∷ []) (items report (codes "\"a\""))
  unfolding begins
  a_string = whole_items report (tokens refl (token (codes "a\"") [] (token.string (string.quoted (string.itself refl string.no_more))) no_more))

  pub an_identifier : AreSaid (said kind.Identifier 0 0 (codes "a") (bytes (bytes_of (codes "a"))) ∷ []) (items report (codes "a"))
  unfolding begins word_kind lookup words same bytes_of utf8
  an_identifier = whole_items report (tokens refl (token [] [] (token.identifier (identifier.plain (identifier.letter refl) done) refl at_end) no_more))

  pub a_peculiar : AreSaid (said kind.Identifier 0 0 (codes "-") (bytes (bytes_of (codes "-"))) ∷ []) (items report (codes "-"))
  -- the list only permits the computing
  unfolding begins word_kind lookup words same bytes_of utf8 span starts within digit_of sign uinteger value signed whole_of
      bought.exponent_marker bought.exponent bought.suffix bought.point_of bought.dotted bought.undotted bought.decimal bought.integral_of
      bought.rational_of bought.or_else just_of to_sign starts_e radix_mark prefix lower is_sign standard-real.infnan standard-real.ratio
      standard-real.ureal standard-real.real standard.ends_i standard.imaginary standard.alone_of standard.pair_of standard.joint
      standard.rectangular standard.complex standard.number_parts bought.infnan
  a_peculiar =
      whole_items report
      (tokens refl
      (token [] []
      (token.peculiar (identifier.alone refl) (identifier.other refl) (unnumbered (codes "-") refl) (unslashed (codes "-") (lone_no_number (code "-") refl)) refl at_end)
      no_more))

  pub in_lines : AreSaid (said kind.Identifier 0 0 (codes "|a|") (bytes (bytes_of (codes "a"))) ∷ []) (items report (codes "|a|"))
  unfolding begins
  in_lines = whole_items report (tokens refl (token (codes "a|") [] (token.lined (identifier.lined (identifier.itself refl identifier.no_more) identifier.some)) no_more))

  pub a_number : AreSaid (said kind.Number 0 0 (codes "1") nothing ∷ []) (items report (codes "1"))
  unfolding begins
  a_number = whole_items report (tokens refl (token [] [] (token.number (a_real [] (codes "1") no_sign (is_integer (some refl done))) at_end) no_more))

  pub a_mark : AreSaid (said kind.OpenParen kind.Round 0 (codes "(") nothing ∷ []) (items report (codes "("))
  unfolding begins
  a_mark = whole_items report (tokens refl (token [] [] (token.punctuation open_list tt) no_more))

  pub a_line_comment : AreSaid (said kind.Comment 0 0 (codes ";a\n") nothing ∷ []) (items report (codes ";a\n"))
  unfolding begins
  a_line_comment = whole_items report (tokens refl (token (codes "a\n") [] (token.line_comment (codes ";a") (codes "\n") (comment.line (more refl done)) comment.newline) no_more))

  pub a_nested_comment : AreSaid (said kind.Comment 0 0 (codes "#||#") nothing ∷ []) (items report (codes "#||#"))
  unfolding begins
  a_nested_comment = whole_items report (tokens refl (token (codes "||#") [] (token.nested_comment (comment.nested (comment.closes [] refl))) no_more))

  pub a_datum_comment : AreSaid (said kind.DatumComment 0 0 (codes "#;") nothing ∷ []) (items report (codes "#;"))
  unfolding begins
  a_datum_comment = whole_items report (tokens refl (token (codes ";") [] token.datum_comment no_more))

  -- a first line with #!, alone and before a token
  pub a_first_line : AreSaid [] (items report (codes "#!a"))
  a_first_line = whole_items report (only_line (more refl done))

  pub after_first_line : AreSaid (said kind.OpenParen kind.Round 4 (codes "(") nothing ∷ []) (items report (codes "#!a\n("))
  unfolding width
  after_first_line = whole_items report (first_line (codes "a") (codes "(") (more refl done) (space refl (token [] [] (token.punctuation open_list tt) no_more)))
