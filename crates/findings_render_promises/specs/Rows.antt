-- Whole answers of `findings_render::render` and `findings_render::summary`: they ensure `r ≡ counted bytes` and `out' ≡ over bytes out`, where the
-- bytes are `rendered` or `summed`.
use Rattle.std.specs.Prelude.{ℕ, false, List, [], ◌∷◌, ◌++◌, ◌≡◌, refl, replicate}
use Rattle.laws.specs.Quoted.{codes, within}
use Rattle.laws.specs.Texts.{span, begins}
use Rattle.chars.specs.Encode.{is_scalar, utf8, width, encode, bytes_of}
use Rattle.chars.specs.Utf8.{first, rest, front}
use Rattle.findings_render_parts.specs.Laid.{is_marked, letter, marked_byte, marked, counted, over}
use Rattle.findings_render_parts.specs.Printed.{digit, digits, tens_up_to, digit_count, number, aligned, hex_count}
use Rattle.findings_render_parts.specs.Shown.{ranges, kind_in, walked, by_its_number, as_its_byte, shown_one, columns, is_copied, under_one, is_nil, carets}
use Rattle.findings_render_parts.specs.Spots.{count_in, start_of, line_number, column_number, cut_return, end_of, next_character, shown_from, shown_to, window_of}
use Rattle.findings_render_messages.specs.Messages.{table, behind, piece_of, told_of, letter_of, variant_of, code_of, key_of, inserted_more, inserted, filled, text_of, is_told}
use Rattle.findings_render.specs.Rendered.{line_of, under_line, picture, spot, severity_word, severity, headline, help, note, body, lines}
use Rattle.findings_render.specs.Json.{name_one, spot_fields, byte_fields, place_fields, word_fields, help_field, see_field, json}
use Rattle.findings_render.specs.Called.{rendered}
use Rattle.findings_render.specs.Summed.{count_of, counts, more, last, summed}

-- W02 at 8..12 of a text with a letter of two bytes before it, and a wrong bracket whose opener lies in another line
abbrev source : List ℕ
source = bytes_of (codes "(bø\t\"\t\" 14m\r\n)")

abbrev finding : List ℕ
finding = 1 ∷ 2 ∷ 0 ∷ 9 ∷ 12 ∷ 0 ∷ 0 ∷ []

abbrev wrong_close : List ℕ
wrong_close = 2 ∷ 41 ∷ 1 ∷ 4 ∷ 5 ∷ 0 ∷ 1 ∷ []

-- a finding's bytes, in a style, of a text that goes by the name `a`
abbrev of_style : ℕ → List ℕ → List ℕ → List ℕ
of_style style f s = rendered f s (codes "a") style false

pub record Rows : Type 0 where
  -- the column counts characters; the return before the newline is not shown; a tab stands under a tab
  pub full : of_style 0 finding source
      ≡ codes "a:1:9: warning: this begins like a number and is read as a name [W02]\n    1 | (b" ++ bytes_of (codes "ø") ++ codes "\t\"\t\" 14m\n      |    \t \t  ^^^\n"
      ++ codes "      = help: mend the number, or write |..| around a name that begins so\n"
  -- the second place has a line of its own
  pub brief : of_style 1 wrong_close (codes "[a)\n)") ≡ codes "a:2:1: error: `)` cannot close `[` [E41]\na:1:1: note: opened here\n"
  -- a byte of no character, and a quote in a name
  pub object : rendered (2 ∷ 21 ∷ 0xE5 ∷ 1 ∷ 1 ∷ 0 ∷ 0 ∷ []) (0x61 ∷ 0xE5 ∷ []) (codes "\"a" ++ (0xE5 ∷ [])) 2 false
      ≡ codes "{\"file\":\"\\\"a\\ufffd\",\"line\":1,\"column\":2,\"end_line\":1,\"end_column\":2,\"byte\":1,\"end_byte\":1,"
      ++ codes "\"severity\":\"error\",\"code\":\"E21\",\"message\":\"byte 0xE5 is not UTF-8: was the plan saved in another encoding?\","
      ++ codes "\"help\":\"save it as UTF-8; nothing after this place was read\",\"see\":null}\n"
  -- what does not fit is counted, and not written
  pub short : (counted (of_style 1 finding source) ≡ 70) × (over (of_style 1 finding source) (replicate 5 9) ≡ codes "a:1:9")
  -- what is not told has no bytes, and no other style has any
  pub unknown : (of_style 0 (2 ∷ 14 ∷ 0 ∷ 0 ∷ 1 ∷ 0 ∷ 0 ∷ []) source ≡ []) × (of_style 3 finding source ≡ [])
  -- not all were told
  pub summary : summed (codes "a") 4 1 3 0 ≡ codes "a: 1 more\na: 1 error, 3 warnings\n"
  pub clean : (summed (codes "a") 0 0 0 1 ≡ codes "a: ok\n") × (summed (codes "a") 0 0 0 2 ≡ [])

rows : Rows
-- the list only permits the computing
unfolding within span begins is_scalar utf8 width encode bytes_of first rest front is_marked letter marked_byte marked counted over digit digits tens_up_to digit_count number aligned hex_count ranges kind_in walked by_its_number as_its_byte shown_one columns is_copied under_one is_nil carets count_in start_of line_number column_number cut_return end_of next_character shown_from shown_to window_of table behind piece_of told_of letter_of variant_of code_of key_of inserted_more inserted filled text_of is_told line_of under_line picture spot severity_word severity headline help note body lines name_one spot_fields byte_fields place_fields word_fields help_field see_field json rendered count_of counts more last summed
rows = record { full = refl; brief = refl; object = refl; short = (refl, refl); unknown = (refl, refl); summary = refl; clean = (refl, refl) }
