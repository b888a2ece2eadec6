-- The tokens that are written out: each is decided by its characters, and takes no other.
use Prim.Native.Nat.{ℕ}
use mathlib.Core.Path.{◌≡◌, refl}
use mathlib.Core.Bool.{Bool, false}
use mathlib.Core.List.{List, [], ◌∷◌}
use Rattle.laws.specs.Quoted.{codes, code}
use Rattle.laws.specs.Texts.{starts, begins, same}
use Rattle.chars.specs.Blank.{is_blank}
use Rattle.chars.specs.Encode.{utf8, width, bytes_of, spelled}
use Rattle.items.specs.declared.Outcome.TheVariants.{Token}
use Rattle.items.specs.Classes.{starts_run, first_of, after_hash, ends_hash, in_hash}
use Rattle.items.specs.Meaning.{one, lookup, words, word_kind, word_means, none}
use Rattle.items.specs.Readers.{got, bool_kind, quote_kind, form_kind, hash_kind, hash_bracket, hash_at, hash_on, read_hash, read_comma, read_item, SoFar}
use Rattle.items.specs.Kinds as kind
use Rattle.items_r7rs.specs.Delimiter.{delimiters, Ends}
use Rattle.items_r7rs.specs.Punctuation.{MayFollow, Punctuation, open_list, close, open_vector_case, open_bytes_case, quote, quasiquote, unquote, unquote_splicing, dot}
use Rattle.items_r7rs.specs.Reading.{nothing, ReadAs}
use Rattle.items_r7rs.specs.Repeated.{done}
use Rattle.items_r7rs.proofs.Computed.{lone_no_number}
use Rattle.items_r7rs.proofs.Reading.{got-whole, read_token}
use Rattle.items_r7rs.proofs.Words.{run_read}

comma_alone : (i : SoFar) (cs : List ℕ) → starts (code "@") cs ≡ false → read_comma i cs ≡ got (Token kind.Unquote 0) i cs
unfolding read_comma starts
comma_alone i [] h = refl
comma_alone i (c ∷ cs) h = rw (h, read_comma)

dot_means : (s e : ℕ) → word_means s e (spelled ".") ≡ one kind.Dot 0 none
unfolding word_means word_kind lookup words same bytes_of utf8
dot_means s e = refl

read_dot : (report : Bool) (cs : List ℕ) → Ends delimiters cs → ReadAs report (codes ".") cs kind.Dot 0 nothing
read_dot report cs h = record {
  text = λ at. none;
  one = run_read report (code ".") kind.Dot (λ at. none) refl done h (lone_no_number (code ".") refl) refl (λ at. dot_means at _);
  spells = λ at. refl;
}

pub punctuation : (report : Bool) {t : List ℕ} {k d : ℕ} (cs : List ℕ) (p : Punctuation t k d) → MayFollow p cs → ReadAs report t cs k d nothing
unfolding is_blank read_item first_of starts_run read_hash after_hash hash_on in_hash ends_hash hash_at hash_kind bool_kind quote_kind form_kind same begins bytes_of utf8 width hash_bracket read_comma
punctuation report cs open_list h = read_token report _ _ cs _ _ refl refl (λ at. refl)
punctuation report cs close h = read_token report _ _ cs _ _ refl refl (λ at. refl)
punctuation report cs open_vector_case h = read_token report _ _ cs _ _ refl refl (λ at. got-whole (Token kind.OpenParen kind.Vector) at (codes "#(") cs)
punctuation report cs open_bytes_case h = read_token report _ _ cs _ _ refl refl (λ at. got-whole (Token kind.OpenParen kind.Bytes) at (codes "#u8(") cs)
punctuation report cs quote h = read_token report _ _ cs _ _ refl refl (λ at. refl)
punctuation report cs quasiquote h = read_token report _ _ cs _ _ refl refl (λ at. refl)
punctuation report cs unquote h = read_token report _ _ cs _ _ refl refl (λ at. comma_alone _ cs h)
punctuation report cs unquote_splicing h = read_token report _ _ cs _ _ refl refl (λ at. got-whole (Token kind.UnquoteSplice 0) at (codes ",@") cs)
punctuation report cs dot h = read_dot report cs h
