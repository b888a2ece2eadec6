-- A finding as an object of JSON, on a line of its own (RFC 8259). Where there is no help or no second place, `null` stands.
use Rattle.std.specs.Prelude.{ℕ, true, List, ◌++◌, ltb, take, if◌then◌else◌}
use Rattle.laws.specs.Quoted.{codes, code}
use Rattle.findings_render_parts.specs.declared.Seen.{Seen}
use Rattle.findings_render_messages.specs.declared.ToldFinding.{ToldFinding}
use Rattle.findings_render_parts.specs.Laid.{marked}
use Rattle.findings_render_parts.specs.Printed.{digits, number}
use Rattle.findings_render_parts.specs.Shown.{is_byte, walked}
use Rattle.findings_render_parts.specs.Spots.{line_number, column_number}
use Rattle.findings_render_messages.specs.Messages.{code_of, text_of, is_told}
use Rattle.findings_render.specs.Rendered.{severity_word}

-- a file's name may have any bytes: a control character stands as `\u001B`, a byte of no character as the replacement character
unfoldable pub name_one : Seen → List ℕ → List ℕ
name_one u t =
    if is_byte u.kind then codes "\\ufffd"
    else if ltb u.code 0x20 then codes "\\u00" ++ digits true 2 u.code
    else marked true (take u.size t)

abbrev pub name_string : List ℕ → List ℕ
name_string name = walked name_one 0 name

-- two fields: a place's line and column
unfoldable pub spot_fields : List ℕ → List ℕ → List ℕ → ℕ → List ℕ
spot_fields line column s p = line ++ (number (line_number s p) ++ (column ++ number (column_number s p)))

-- and its two places in bytes
unfoldable pub byte_fields : ℕ → ℕ → List ℕ
byte_fields p q = codes ",\"byte\":" ++ (number p ++ (codes ",\"end_byte\":" ++ number q))

unfoldable pub place_fields : ToldFinding → List ℕ → List ℕ
place_fields t s =
    spot_fields (codes "\",\"line\":") (codes ",\"column\":") s t.start
    ++ (spot_fields (codes ",\"end_line\":") (codes ",\"end_column\":") s t.end ++ byte_fields t.start t.end)

unfoldable pub word_fields : ToldFinding → List ℕ → List ℕ
word_fields t s =
    codes ",\"severity\":\""
    ++ (severity_word t
    ++ (codes "\",\"code\":\"" ++ (code_of t ++ (codes "\",\"message\":\"" ++ (marked true (text_of t s (code ".")) ++ codes "\"")))))

unfoldable pub help_field : ToldFinding → List ℕ → List ℕ
help_field t s =
    if is_told t (code "?") then codes ",\"help\":\"" ++ (marked true (text_of t s (code "?")) ++ codes "\"") else codes ",\"help\":null"

unfoldable pub see_field : ToldFinding → List ℕ → List ℕ
see_field t s =
    if is_told t (code "!")
    then spot_fields (codes ",\"see\":{\"line\":") (codes ",\"column\":") s t.from
    ++ (byte_fields t.from t.to ++ (codes ",\"message\":\"" ++ (marked true (text_of t s (code "!")) ++ codes "\"}")))
    else codes ",\"see\":null"

unfoldable pub json : ToldFinding → List ℕ → List ℕ → List ℕ
json t s name =
    codes "{\"file\":\"" ++ (name_string name ++ (place_fields t s ++ (word_fields t s ++ (help_field t s ++ (see_field t s ++ codes "}\n")))))
