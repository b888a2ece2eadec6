-- R7RS 7.1.1:
--   <character> → #\<any character> | #\<character name> | #\x<hex scalar value>
--   <character name> → alarm | backspace | delete | escape | newline | null | return | space | tab
-- The case of a letter is significant in <character name>, and not in the x. Departures: the Rust has error 10 for #\X0, and it takes a
-- name in any case, #\SPACE
use Rattle.std.specs.Prelude.{ℕ, ◌≡◌, true, List, [], ◌∷◌}
use Rattle.laws.specs.Quoted.{codes, code}
use Rattle.chars.specs.Encode.{is_scalar}
use Rattle.items_r7rs.specs.Escape.{HexScalar}

-- a name, and the character that 6.6 gives it
pub data CharacterName : List ℕ → ℕ → Type 0 where
  named_alarm : CharacterName (codes "alarm") 0x07
  named_backspace : CharacterName (codes "backspace") 0x08
  named_delete : CharacterName (codes "delete") 0x7F
  named_escape : CharacterName (codes "escape") 0x1B
  named_newline : CharacterName (codes "newline") 0x0A
  named_null : CharacterName (codes "null") 0x00
  named_return : CharacterName (codes "return") 0x0D
  named_space : CharacterName (codes "space") 0x20
  named_tab : CharacterName (codes "tab") 0x09

-- a text, and the character that it writes
pub data CharacterText : List ℕ → ℕ → Type 0 where
  any : {c : ℕ} → is_scalar c ≡ true → CharacterText (code "#" ∷ code "\\" ∷ c ∷ []) c
  by_name : {t : List ℕ} {c : ℕ} → CharacterName t c → CharacterText (code "#" ∷ code "\\" ∷ t) c
  by_hex : {h : List ℕ} {c : ℕ} → HexScalar h c → CharacterText (code "#" ∷ code "\\" ∷ code "x" ∷ h) c
