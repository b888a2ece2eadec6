-- The items of a whole text of tokens and spaces are what the productions say, in both modes: each token is read as its one item, and
-- spaces are passed over.
use Prim.Native.Nat.{ℕ, ◌+◌}
use mathlib.Core.Path.{◌≡◌, refl, sym, subst, ◌∙◌}
use mathlib.Core.Bool.{Bool, true}
use mathlib.Core.List.{List, [], ◌∷◌, ◌++◌}
use lib.ListN.{length}
use native.Mathlib.Nat.{add_assoc, add-zero, le_refl}
use Rattle.laws.specs.Quoted.{code, one_of}
use Rattle.chars.specs.Blank.{is_blank}
use Rattle.chars.specs.Encode.{width}
use Rattle.items.specs.Items.{Item, unset, items_at, past_line, after_pound, items, byte_count}
use Rattle.items_r7rs.specs.Reading.{item, Reads, ends, blank, reads}
use Rattle.items_r7rs.specs.Repeated.{Many, done, more}
use Rattle.items_r7rs.specs.Whole.{Said, whitespace, Tokens, no_more, space, token, InFirstLine, Whole, tokens, first_line, only_line, AreSaid, none, one}
use Rattle.items_r7rs.proofs.Classes.{at_one_of}
use Rattle.items_r7rs.proofs.Reading.{turns_on, text_items}
use Rattle.items_r7rs.proofs.Token.{read_as}

space_blank : (c : ℕ) → one_of whitespace c ≡ true → is_blank c ≡ true
unfolding is_blank
space_blank c h = at_one_of is_blank true whitespace c refl h

space_byte : (c : ℕ) → one_of whitespace c ≡ true → width c ≡ 1
unfolding width
space_byte c h = at_one_of width 1 whitespace c refl h

-- the items, that they are read, and that they are as said
record Found (report : Bool) (at : ℕ) (cs : List ℕ) (ts : List Said) : Type 0 where
  all : List Item
  read : Reads report at cs all
  as_said : AreSaid ts all

found : (report : Bool) {at : ℕ} {cs : List ℕ} {ts : List Said} → Tokens report at cs ts → Found report at cs ts
found report no_more = record { all = []; read = ends; as_said = none }
found report (space {at = at} {c = c} {cs = cs} h m) =
    let f = found report m in
    let r : Reads report (at + width c) cs f.all = rw (space_byte c h) f.read in
    record { all = f.all; read = blank (space_blank c h) r; as_said = f.as_said }
found report (token {at = at} {c = c} {k = k} {d = d} t cs x m) =
    let f = found report m in
    let r = read_as report cs x in
    record { all = item k d at (at + byte_count (c ∷ t)) (r.text at) ∷ f.all; read = reads t cs r f.read; as_said = one (c ∷ t) (r.spells at) f.as_said }

past_line_holds : (report : Bool) (at : ℕ) (cs : List ℕ) {l : List ℕ} → Many InFirstLine l → past_line report at (l ++ (code "\n" ∷ cs)) ≡ items_at report (at + byte_count l) (code "\n" ∷ cs)
unfolding past_line
past_line_holds report at cs done = rw (add-zero at)
past_line_holds report at cs (more {c = c} {t = l} h m) = rw (h, past_line) (past_line_holds report (at + width c) cs m ∙ rw (add_assoc at (width c) (byte_count l)))

past_all : (report : Bool) (at : ℕ) {l : List ℕ} → Many InFirstLine l → past_line report at l ≡ []
unfolding past_line
past_all report at done = refl
past_all report at (more {c = c} h m) = rw (h, past_line) (past_all report (at + width c) m)

marked : (report : Bool) (cs : List ℕ) → items report (code "#" ∷ code "!" ∷ cs) ≡ past_line report 2 cs
unfolding items after_pound
marked report cs = refl

-- the theorem
pub whole_items : (report : Bool) {cs : List ℕ} {ts : List Said} → Whole report cs ts → AreSaid ts (items report cs)
whole_items report {ts = ts} (tokens {cs = cs} h m) = let f = found report m in subst (AreSaid ts) (sym (text_items report cs h f.read)) f.as_said
whole_items report {ts = ts} (first_line l cs h m) =
    let f = found report m in
    subst (AreSaid ts)
    (sym (marked report (l ++ (code "\n" ∷ cs)) ∙ (past_line_holds report 2 cs h ∙ turns_on report (length (code "\n" ∷ cs)) unset f.read (le_refl _))))
    f.as_said
whole_items report {ts = ts} (only_line {l = l} h) = subst (AreSaid ts) (sym (marked report l ∙ past_all report 2 h)) none
