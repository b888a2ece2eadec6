-- What is said of each finding, in one table, and how it is filled in.
use Rattle.std.specs.Prelude.{ℕ, ◌+◌, ◌-◌, ◌/◌, ◌%◌, Bool, true, not, ◌&&◌, List, [], ◌∷◌, ◌++◌, eqb, ltb, length, get_or, take, drop, if◌then◌else◌}
use Rattle.laws.specs.Quoted.{codes, code, one_of}
use Rattle.laws.specs.Texts.{before, begins}
use Rattle.findings_render_messages.specs.declared.ToldFinding.{ToldFinding}
use Rattle.findings_render_parts.specs.Printed.{digit, digits, hex_count, number}
use Rattle.findings_render_parts.specs.Shown.{shown, is_nil}

-- A piece for each text, ended by a zero byte: the code with its variant, `.` for the message, `?` for the help or `!` for the note at the second
-- place, and the text, in which stand for: @ the place's text; & the second place's; % the detail as a number; $ as a character; * and ~ in
-- hexadecimal digits; < and > what stands in the place before and behind so many bytes and one more.
unfoldable pub table : List ℕ
table =
    codes "E010.unexpected character in `@`\0"
    ++ codes "E020.this text is not closed: a `\"` is missing\0"
    ++ codes "E022.this text goes on over the line's end: is its closing quote missing?\0"
    ++ codes "E022!quotes are paired from the front, and this one is left over\0"
    ++ codes "E030.this name is not closed: a `|` is missing\0"
    ++ codes "E040.this comment is not closed: `|#` is missing\0"
    ++ codes "E050.after `\\` and blanks the line must end\0"
    ++ codes "E050?to write a backslash, type it twice: `\\\\`\0"
    ++ codes "E060.`@` is no escape\0"
    ++ codes "E060?to write a backslash, type it twice: `\\\\`\0"
    ++ codes "E070.a character is missing after `#\\`\0"
    ++ codes "E070?a blank is written `#\\space`\0"
    ++ codes "E080.a fraction cannot have 0 below the line\0"
    ++ codes "E090.this escape is not closed: `$` is missing\0"
    ++ codes "E100.no character has this name\0"
    ++ codes "E100?the names are alarm, backspace, delete, escape, newline, null, return, space and tab\0"
    ++ codes "E111.hexadecimal digits are missing here\0"
    ++ codes "E112.`@` is no hexadecimal digit\0"
    ++ codes "E112?digits are 0 to 9 and A to F; a letter can be typed as it is\0"
    ++ codes "E113.this number is too large for a character\0"
    ++ codes "E113?the largest is 10FFFF\0"
    ++ codes "E120.no character has this number\0"
    ++ codes "E120?D800 to DFFF are no characters, and 10FFFF is the last one\0"
    ++ codes "E130.this mark cannot stand in a character's name\0"
    ++ codes "E130?put a blank before it\0"
    ++ codes "E200.the plan has more than 4,294,967,295 bytes\0"
    ++ codes "E200?split it into several files\0"
    ++ codes "E210.byte 0x~ is not UTF-8: was the plan saved in another encoding?\0"
    ++ codes "E210?save it as UTF-8; nothing after this place was read\0"
    ++ codes "E400.this bracket is never closed\0"
    ++ codes "E401.% brackets are never closed; the last is this one\0"
    ++ codes "E402.this bracket is probably the one that is never closed\0"
    ++ codes "E402!this list starts no further right: is a closing bracket missing before it?\0"
    ++ codes "E410.this bracket closes nothing: there is one too many\0"
    ++ codes "E411.`@` cannot close `&`\0"
    ++ codes "E411!opened here\0"
    ++ codes "E420.a dot on its own cannot stand here\0"
    ++ codes "E420?it stands before the last thing of a list\0"
    ++ codes "E421.after this dot exactly one thing must stand before the bracket closes\0"
    ++ codes "E430.nothing stands after `@`\0"
    ++ codes "E430?remove it, or write after it what it belongs to\0"
    ++ codes "E440.lists lie more than 64 deep here\0"
    ++ codes "W010.a comma in a number makes it a name\0"
    ++ codes "W010?write it with a dot: <.>\0"
    ++ codes "W020.this begins like a number and is read as a name\0"
    ++ codes "W020?mend the number, or write |..| around a name that begins so\0"
    ++ codes "W030.this typographic quote does not begin a text\0"
    ++ codes "W030?type the straight quote `\"`\0"
    ++ codes "W040.this typographic dash is no minus sign\0"
    ++ codes "W040?type the hyphen `-`\0"
    ++ codes "W050.the invisible character U+* makes this another name\0"
    ++ codes "W050?remove it; a byte order mark goes if the plan is saved as UTF-8 without BOM\0"
    ++ codes "W060.this text goes on over the line's end and a `(`: is its closing quote missing?\0"
    ++ codes "W070.terminals that read in plain mode take this number for a name\0"
    ++ codes "W070?put a blank before the `$`\0"

-- what stands behind a key in the first piece that begins with it
unfoldable pub behind : List ℕ → Bool → List ℕ → List ℕ
behind key start [] = []
behind key start (b ∷ s) = if start && begins key (b ∷ s) then drop (length key) (b ∷ s) else behind key (eqb b 0) s

unfoldable pub piece_of : List ℕ → List ℕ → List ℕ
piece_of key t = take (before 0 (behind key true t)) (behind key true t)

-- ---- a finding's seven words; its places end where the text does

abbrev pub cut : List ℕ → ℕ → ℕ
cut s p = if ltb (length s) p then length s else p

unfoldable pub told_of : List ℕ → List ℕ → ToldFinding
told_of f s =
    record {
      severity = get_or f 0 0;
      code = get_or f 1 0;
      detail = get_or f 2 0;
      start = cut s (get_or f 3 0);
      end = cut s (get_or f 4 0);
      from = cut s (get_or f 5 0);
      to = cut s (get_or f 6 0);
    }

-- E for an error, 2, and W for a warning, 1, or one that counts as an error, 3; codes have two digits
unfoldable pub letter_of : ToldFinding → ℕ
letter_of t =
    if ltb 99 t.code then 0
    else if eqb t.severity 2 then code "E"
    else if eqb t.severity 1 then code "W"
    else if eqb t.severity 3 then code "W"
    else 0

-- E11, E41 and E42 differ by their detail, E02 and E40 by whether there is a second place, and E40 by how many brackets are open
unfoldable pub variant_of : ToldFinding → ℕ
variant_of t =
    if one_of (11 ∷ 41 ∷ 42 ∷ []) t.code then (if ltb t.detail 9 then t.detail else 9)
    else if one_of (2 ∷ 40 ∷ []) t.code then (if ltb t.from t.to then 2 else if ltb 1 t.detail then 1 else 0)
    else 0

unfoldable pub code_of : ToldFinding → List ℕ
code_of t = letter_of t ∷ digit ((t.code / 10) % 10) ∷ digit (t.code % 10) ∷ []

unfoldable pub key_of : ToldFinding → ℕ → List ℕ
key_of t which = letter_of t ∷ digit ((t.code / 10) % 10) ∷ digit (t.code % 10) ∷ digit (variant_of t) ∷ which ∷ []

-- ---- its texts

abbrev pub place_text : ToldFinding → List ℕ → List ℕ
place_text t s = take (t.end - t.start) (drop t.start s)

abbrev pub see_text : ToldFinding → List ℕ → List ℕ
see_text t s = take (t.to - t.from) (drop t.from s)

unfoldable pub inserted_more : ToldFinding → List ℕ → ℕ → List ℕ
inserted_more t s b =
    if eqb b (code "*") then digits true (hex_count t.detail) t.detail
    else if eqb b (code "~") then digits true 2 t.detail
    else if eqb b (code "<") then shown (take t.detail (place_text t s))
    else if eqb b (code ">") then shown (drop (t.detail + 1) (place_text t s))
    else b ∷ []

unfoldable pub inserted : ToldFinding → List ℕ → ℕ → List ℕ
inserted t s b =
    if eqb b (code "@") then shown (place_text t s)
    else if eqb b (code "&") then shown (see_text t s)
    else if eqb b (code "%") then number t.detail
    else if eqb b (code "$") then shown ((t.detail % 256) ∷ [])
    else inserted_more t s b

unfoldable pub filled : ToldFinding → List ℕ → List ℕ → List ℕ
filled t s [] = []
filled t s (b ∷ bs) = inserted t s b ++ filled t s bs

unfoldable pub text_of : ToldFinding → List ℕ → ℕ → List ℕ
text_of t s which = filled t s (piece_of (key_of t which) table)

-- whether there is such a text
unfoldable pub is_told : ToldFinding → ℕ → Bool
is_told t which = not (is_nil (piece_of (key_of t which) table))
