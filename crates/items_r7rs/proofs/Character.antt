-- <character>: after `#\` the next character is taken whatever it is, and then all up to a delimiter; what that spells is the character.
use Rattle.std.proofs.Common.{Ok}
use Prim.Native.Nat.{ℕ, ◌<◌}
use mathlib.Core.Path.{◌≡◌, refl, ◌∙◌}
use mathlib.Core.Bool.{Bool, true, false, ◌||◌}
use mathlib.Core.List.{List, [], ◌∷◌, ◌++◌, map, append-nil}
use lib.ListN.{length, get_or}
use lib.Dec.{ltb}
use native.Mathlib.Omega.{arith}
use borrow.Author.Tests.{lt-ltb, le-leb, lt-leb, eq-eqb, ltb-true}
use Rattle.laws.specs.Quoted.{codes, code}
use Rattle.laws.specs.Texts.{begins, same}
use Rattle.laws.proofs.Choice.{by_bool, and_no}
use Rattle.laws.proofs.Compared.{same_differ}
use Rattle.chars.specs.Blank.{is_blank}
use Rattle.chars.specs.Encode.{is_scalar, utf8, width, bytes_of}
use Rattle.chars.specs.Utf8.{front, char}
use Rattle.chars.proofs.Width.{width-utf8}
use Rattle.chars.proofs.Round.{back}
use Rattle.items.specs.declared.HashKind.TheVariants.{Decided}
use Rattle.items.specs.declared.Outcome.TheVariants as outcome
use Rattle.items.specs.Classes.{after_hash, ends_hash, in_hash, stays_hash}
use Rattle.items.specs.Meaning.{lookup, lower, char_names, unnamed, only_one, hex_named, spelled_out, character_of, char_inside, none, Row}
use Rattle.items.specs.Readers.{so_far, got, first_is, bool_kind, quote_kind, form_kind, hash_kind, hash_on, read_item}
use Rattle.items.specs.Kinds as kind
use Rattle.items_r7rs.specs.Character.{CharacterName, named_alarm, named_backspace, named_delete, named_escape, named_newline}
use Rattle.items_r7rs.specs.Character.{named_null, named_return, named_space, named_tab, CharacterText, any, by_name, by_hex}
use Rattle.items_r7rs.specs.Delimiter.{hash_delimiters, Ends}
use Rattle.items_r7rs.specs.Escape.{HexScalar}
use Rattle.items_r7rs.specs.Reading.{nothing, ReadAs}
use Rattle.items_r7rs.specs.Repeated.{Many, done, more}
use Rattle.items_r7rs.proofs.Bytes.{High, utf8_low, utf8_high, bytes_ascii, bytes_some, high_first, Beyond, all_high}
use Rattle.items_r7rs.proofs.Classes.{many_all, beyond_differs}
use Rattle.items_r7rs.proofs.Hash.{Staying, hash_on_lem, hash_ends, hash_decided, after_hash_lem}
use Rattle.items_r7rs.proofs.Hex.{scalar_of_lem, scalar_some, scalar_digits, digits_bytes, digit_stays, Hexadecimal}
use Rattle.items_r7rs.proofs.Reading.{eats, whole, eats-whole, read_one}

-- ---- reading

kind_of : (l : List ℕ) → 0 < length l → hash_kind (code "#" ∷ code "\\" ∷ l) ≡ Decided outcome.Character
unfolding hash_kind bool_kind quote_kind form_kind same begins bytes_of utf8
kind_of l h = rw (lt-leb (length (code "#" ∷ code "\\" ∷ l)) 2 (omega arith))

character_kind : (c : ℕ) (t : List ℕ) → hash_kind (bytes_of (code "#" ∷ code "\\" ∷ c ∷ t)) ≡ Decided outcome.Character
character_kind c t =
    rw (bytes_ascii (code "#") (code "\\" ∷ c ∷ t) refl, bytes_ascii (code "\\") (c ∷ t) refl)
    (kind_of (bytes_of (c ∷ t)) (ltb-true 0 (length (bytes_of (c ∷ t))) (bytes_some c t)))

module _ (report : Bool) (at c : ℕ) {t cs : List ℕ} where
  character_read : Many Staying t → Ends hash_delimiters cs
      → read_item report at (code "#") (code "\\" ∷ c ∷ t ++ cs) ≡ got outcome.Character (whole at (code "#" ∷ code "\\" ∷ c ∷ t)) cs
  unfolding hash_on in_hash after_hash
  character_read m e =
      after_hash_lem report at (code "\\") (c ∷ t ++ cs) refl
      ∙ (hash_on_lem report (eats (so_far [] at) (code "#" ∷ code "\\" ∷ c ∷ [])) cs m
      ∙ (hash_ends report _ e ∙ rw (eats-whole at (code "#" ∷ code "\\" ∷ c ∷ t)) (hash_decided report _ cs outcome.Character (character_kind c t))))

-- an item that spells a character
module _ (report : Bool) (c : ℕ) {t cs : List ℕ} (v : ℕ) (m : Many Staying t) (e : Ends hash_delimiters cs) (spells : character_of report (bytes_of (c ∷ t)) ≡ Ok v) where
  spelled_so : character_of report (char_inside (bytes_of (code "#" ∷ code "\\" ∷ c ∷ t))) ≡ Ok v
  spelled_so = rw (bytes_ascii (code "#") (code "\\" ∷ c ∷ t) refl, bytes_ascii (code "\\") (c ∷ t) refl) spells

  read_character : ReadAs report (code "#" ∷ code "\\" ∷ c ∷ t) cs kind.CharacterLiteral v nothing
  unfolding is_blank
  read_character = record {
    text = λ at. none;
    one = read_one report (code "#") (code "\\" ∷ c ∷ t) cs outcome.Character kind.CharacterLiteral v (λ at. none) refl refl
        (λ at. character_read report at c m e)
        (λ last at. rw spelled_so)
        (λ at. rw spelled_so);
    spells = λ at. refl;
  }

-- ---- what the bytes spell

-- a text that is none of a table's
module _ (raw : List ℕ) (n : ℕ) (test : List ℕ → Bool) (other : (w : List ℕ) → test w ≡ true → same raw w ≡ false) where
  lookup_none : (rs : List Row) → map (λ r. test r.text) rs ≡ map (λ r. true) rs → lookup rs raw n ≡ n
  unfolding lookup
  lookup_none [] h = refl
  lookup_none (r ∷ rs) h = rw (other r.text (cc)) (lookup_none rs (cc))

-- one byte is no name, and no name starts with a byte past ASCII
long : (b : ℕ) (w : List ℕ) → ltb 1 (length w) ≡ true → same (b ∷ []) w ≡ false
long b w h = same_differ (b ∷ []) w (λ e. omega (arith, ltb-true 1 (length w) h))

ascii_first : (b : ℕ) (bs w : List ℕ) → High b → ltb (get_or w 0 0) 0x80 ≡ true → same (b ∷ bs) w ≡ false
unfolding same
ascii_first b bs [] l h = refl
ascii_first b bs (x ∷ w) l h = rw (beyond_differs b l x h)

one_unnamed : (b : ℕ) → lookup char_names (b ∷ []) unnamed ≡ unnamed
unfolding char_names bytes_of utf8
one_unnamed b = lookup_none (b ∷ []) unnamed (λ w. ltb 1 (length w)) (long b) char_names refl

high_lower : (b : ℕ) → High b → lower b ≡ b
high_lower b h = rw (le-leb (code "A") b (omega arith), lt-leb b (code "Z") (omega arith))

beyond_unnamed : {bs : List ℕ} → Beyond bs → lookup char_names (map lower bs) unnamed ≡ unnamed
unfolding char_names bytes_of utf8
beyond_unnamed (all_high {b = b} {bs = bs} h m) =
    rw (high_lower b h) (lookup_none (b ∷ map lower bs) unnamed (λ w. ltb (get_or w 0 0) 0x80) (λ w l. ascii_first b (map lower bs) w h l) char_names refl)

alone_back : (c : ℕ) → is_scalar c ≡ true → front (utf8 c) ≡ char c (width c)
alone_back c h = rw append-nil at (back c [] h)

is_one : (report : Bool) (c : ℕ) → is_scalar c ≡ true → only_one report (front (utf8 c)) (utf8 c) ≡ Ok c
is_one report c h = rw (alone_back c h, width-utf8 c) (rw (eq-eqb (width c) (width c) refl))

low_out : (report : Bool) (c : ℕ) → is_scalar c ≡ true → ltb c 0x80 ≡ true → spelled_out report (c ∷ []) ≡ Ok c
unfolding spelled_out
low_out report c h l = rw (and_no (first_is (code "u") (c ∷ []) || first_is (code "x") (c ∷ []))) (rw (utf8_low c l) at (is_one report c h))

high_out : (report : Bool) (c : ℕ) → is_scalar c ≡ true → ltb c 0x80 ≡ false → spelled_out report (utf8 c) ≡ Ok c
unfolding spelled_out
high_out report c h l = rw (high_first (code "u") refl (utf8_high c l), high_first (code "x") refl (utf8_high c l)) (is_one report c h)

any_character : (report : Bool) (c : ℕ) → is_scalar c ≡ true → character_of report (bytes_of (c ∷ [])) ≡ Ok c
unfolding character_of bytes_of
any_character report c h =
    rw (append-nil (utf8 c))
    (by_bool (ltb c 0x80)
    (λ l. rw (utf8_low c l) (rw (one_unnamed (lower c)) (low_out report c h l)))
    (λ l. rw (beyond_unnamed (utf8_high c l)) (high_out report c h l)))

-- <character name>
name_character : (report : Bool) {t : List ℕ} {c : ℕ} → CharacterName t c → character_of report (bytes_of t) ≡ Ok c
unfolding character_of lookup char_names same bytes_of utf8
name_character report named_alarm = refl
name_character report named_backspace = refl
name_character report named_delete = refl
name_character report named_escape = refl
name_character report named_newline = refl
name_character report named_null = refl
name_character report named_return = refl
name_character report named_space = refl
name_character report named_tab = refl

-- <hex scalar value>
x_unnamed : (l : List ℕ) → lookup char_names (code "x" ∷ l) unnamed ≡ unnamed
unfolding lookup char_names same bytes_of utf8
x_unnamed l = refl

hex_character : (report : Bool) {h : List ℕ} {c : ℕ} → HexScalar h c → character_of report (bytes_of (code "x" ∷ h)) ≡ Ok c
unfolding character_of spelled_out hex_named
hex_character report {h} s =
    rw (bytes_ascii (code "x") h refl, digits_bytes (scalar_digits s)) (rw (x_unnamed (map lower h)) (rw (lt-ltb 1 (length (code "x" ∷ h)) (omega (arith, scalar_some s))) (rw (scalar_of_lem s))))

-- ---- the theorem

digits_stay : {t : List ℕ} → Many Hexadecimal t → Many Staying t
digits_stay done = done
digits_stay (more h m) = more (digit_stays h) (digits_stay m)

-- the characters of a name past its first
data Letters : List ℕ → Type 0 where
  first_and : {c : ℕ} {t : List ℕ} → Many Staying t → Letters (c ∷ t)

name_letters : {t : List ℕ} {c : ℕ} → CharacterName t c → Letters t
unfolding in_hash ends_hash is_blank
name_letters named_alarm = first_and (many_all in_hash stays_hash (codes "larm") refl)
name_letters named_backspace = first_and (many_all in_hash stays_hash (codes "ackspace") refl)
name_letters named_delete = first_and (many_all in_hash stays_hash (codes "elete") refl)
name_letters named_escape = first_and (many_all in_hash stays_hash (codes "scape") refl)
name_letters named_newline = first_and (many_all in_hash stays_hash (codes "ewline") refl)
name_letters named_null = first_and (many_all in_hash stays_hash (codes "ull") refl)
name_letters named_return = first_and (many_all in_hash stays_hash (codes "eturn") refl)
name_letters named_space = first_and (many_all in_hash stays_hash (codes "pace") refl)
name_letters named_tab = first_and (many_all in_hash stays_hash (codes "ab") refl)

letters_read : (report : Bool) (cs : List ℕ) {t : List ℕ} (c : ℕ) → Letters t → character_of report (bytes_of t) ≡ Ok c → Ends hash_delimiters cs
    → ReadAs report (code "#" ∷ code "\\" ∷ t) cs kind.CharacterLiteral c nothing
letters_read report cs c (first_and {c = x} m) h e = read_character report x c m e h

pub character_text : (report : Bool) {t : List ℕ} {c : ℕ} (cs : List ℕ) → CharacterText t c → Ends hash_delimiters cs → ReadAs report t cs kind.CharacterLiteral c nothing
character_text report cs (any {c = c} h) e = read_character report c c done e (any_character report c h)
character_text report cs (by_name {c = c} n) e = letters_read report cs c (name_letters n) (name_character report n) e
character_text report cs (by_hex {c = c} s) e = read_character report (code "x") c (digits_stay (scalar_digits s)) e (hex_character report s)
