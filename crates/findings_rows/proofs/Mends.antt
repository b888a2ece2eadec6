-- A mended turn goes forward, as a turn does, and in nine words it is what the code builds.
use Prim.Native.Nat.{ℕ, ◌+◌, ◌-◌, ◌≤◌, ◌<◌}
use mathlib.Core.Path.{◌≡◌, refl, sym, ap, ◌∙◌, subst}
use mathlib.Core.Bool.{Bool, true, false}
use mathlib.Core.List.{List, [], ◌∷◌}
use lib.ListN.{length, drop, length-drop}
use lib.Dec.{eqb}
use native.Mathlib.Omega.{arith}
use Rattle.std.specs.Prelude.{if◌then◌else◌, None, Option, Some}
use Rattle.laws.specs.Quoted.{code}
use Rattle.laws.proofs.Choice.{by_bool, impossible}
use Rattle.items.specs.Kinds as kind
use Rattle.items.specs.Items.{Item}
use Rattle.items.specs.declared.Nine.{Nine}
use Rattle.meaning.specs.Records.{packed}
use Rattle.lexer.specs.Reading.{Turn, gives, ends, next_at, size_of, found_of, one_found}
use Rattle.lexer.specs.declared.Spot.{Spot}
use Rattle.lexer.proofs.Moves.{Moved}
use Rattle.lexer.proofs.Nexts.{found_gives, found_ends, next_moved}
use Rattle.findings_rows.specs.Mended.{slips, quote_of, closing, rest_from, closing_of, spot_at, slip_turn, mend_turn, mended_at}
use Rattle.findings_rows.specs.Inner.{ended_nine, unclosed_nine, mended_by, mend_nine}

-- ---- where the rest ends

-- behind a byte of those that are looked at
pub closing_inside : (quote : ℕ) (escaped : Bool) (at : ℕ) (bs : List ℕ) (e : ℕ) → closing quote escaped at bs ≡ Some e → (at < e) × (e ≤ at + length bs)
unfolding closing
closing_inside quote escaped at [] e h = impossible cc
closing_inside quote true at (b ∷ bs) e h = let r = closing_inside quote false (at + 1) bs e h in (omega (arith, r), omega (arith, r))
closing_inside quote false at (b ∷ bs) e h = by_bool (eqb b quote)
    (λ t. let z : Some (at + 1) ≡ Some e = rw t at h in let y : at + 1 ≡ e = cc in (omega arith, omega arith))
    (λ t. let r = closing_inside quote (eqb b (code "\\")) (at + 1) bs e (rw t at h) in (omega (arith, r), omega (arith, r)))

rest_near : (b : Bool) (at : ℕ) → (at ≤ (if b then at - 1 else at) + 1) × ((if b then at - 1 else at) ≤ at)
rest_near true at = (omega arith, omega arith)
rest_near false at = (omega arith, omega arith)

pub closing_past : (s : List ℕ) (k start at e : ℕ) → at ≤ length s → closing_of s k start at ≡ Some e → (at ≤ e) × (e ≤ length s)
closing_past s k start at e h f =
    let n = rest_near (eqb k (kind.first_error + kind.UnclosedHexEscape)) at in
    let r = closing_inside (quote_of s start) false (rest_from k at) (drop (rest_from k at) s) e f in
    (omega (arith, n, r), omega (arith, n, r, length-drop (rest_from k at) s))

-- ---- the spot after it

-- a spot further on is no larger
size_on : (s : List ℕ) (q : Spot) (e : ℕ) → q.at ≤ e → size_of s (spot_at q e) ≤ size_of s q
size_on s q e h = omega arith

-- an item, the spot after it lies in the source and is smaller
pub record Forward (s : List ℕ) (p q : Spot) : Type 0 where
  pub smaller : size_of s q < size_of s p
  pub ahead : p.at ≤ q.at
  pub inside : q.at ≤ length s

module _ (s : List ℕ) (p : Spot) where
  slip_forward : (i : Item) (q : Spot) → Moved s p i q → (c : Option ℕ) → closing_of s i.kind i.start q.at ≡ c
      → (j : Item) (t : Spot) → slip_turn s i q c ≡ gives j t → Forward s p t
  slip_forward i q m (Some e) f j t h =
      let u : spot_at q e ≡ t = cc in
      let r = closing_past s i.kind i.start q.at e m.inside f in
      subst (Forward s p) u
      (record { smaller = omega (arith, m.smaller, size_on s q e r.0); ahead = omega (arith, m.memory, r); inside = r.1 })
  slip_forward i q m None f j t h =
      let u : spot_at q (length s) ≡ t = cc in
      subst (Forward s p) u
      (record { smaller = omega (arith, m.smaller, size_on s q (length s) m.inside); ahead = omega (arith, m.memory, m.inside); inside = omega arith })

  turn_forward : (t : Turn) → next_at s p ≡ t → (j : Item) (u : Spot) → mend_turn s t ≡ gives j u → Forward s p u
  turn_forward ends e j u h = impossible cc
  turn_forward (gives i q) e j u h =
      let m : Moved s p i q = next_moved s p q i e in
      by_bool (slips s i.kind i.start)
      (λ b. slip_forward i q m (closing_of s i.kind i.start q.at) refl j u (rw b at h))
      (λ b. let z : gives i q ≡ gives j u = rw b at h in
      let v : q ≡ u = cc in
      subst (Forward s p) v (record { smaller = m.smaller; ahead = omega (arith, m.memory); inside = m.inside }))

  pub mended_forward : (j : Item) (u : Spot) → mended_at s p ≡ gives j u → Forward s p u
  unfolding mended_at
  mended_forward j u h = turn_forward (next_at s p) refl j u h

-- ---- in nine words

closing_is : (s : List ℕ) (k start at quote from : ℕ) (o : Option ℕ) → quote ≡ quote_of s start → from ≡ rest_from k at
    → o ≡ closing quote false from (drop from s) → closing_of s k start at ≡ o
closing_is s k start at quote from o hq hf ho =
    ap (λ (x : ℕ). closing x false (rest_from k at) (drop (rest_from k at) s)) (sym hq)
    ∙ ap (λ (x : ℕ). closing quote false x (drop x s)) (sym hf) ∙ sym ho

module _ (s : List ℕ) (r : Nine) (q : Spot) (quote from : ℕ) (o : Option ℕ) (hq : quote ≡ quote_of s r.start) (hf : from ≡ rest_from r.kind q.at)
    (ho : o ≡ closing quote false from (drop from s)) where
  found : closing_of s r.kind r.start q.at ≡ o
  found = closing_is s r.kind r.start q.at quote from o hq hf ho

  pub behind_inside : (e : ℕ) → o ≡ Some e → q.at ≤ length s → e ≤ length s
  behind_inside e h l = (closing_past s r.kind r.start q.at e l (found ∙ h)).1

  pub mend_behind : (e : ℕ) → o ≡ Some e → (x : Nine) (y : Spot) → x ≡ ended_nine e r → y ≡ spot_at q e → one_found x y ≡ mend_nine s r q
  mend_behind e h x y hx hy = ap (λ (u : Nine). one_found u y) hx ∙ ap (one_found (ended_nine e r)) hy ∙ ap (mended_by s r q) (sym (found ∙ h))

  pub mend_nowhere : o ≡ None → (x : Nine) (y : Spot) → x ≡ unclosed_nine quote r.start (length s) → y ≡ spot_at q (length s) → one_found x y ≡ mend_nine s r q
  mend_nowhere h x y hx hy =
      ap (λ (u : Nine). one_found u y) (hx ∙ ap (λ (k : ℕ). unclosed_nine k r.start (length s)) hq)
      ∙ ap (one_found (unclosed_nine (quote_of s r.start) r.start (length s))) hy
      ∙ ap (mended_by s r q) (sym (found ∙ h))

slip_packed : (s : List ℕ) (i : Item) (q : Spot) (c : Option ℕ) → mended_by s (packed 0 i) q c ≡ found_of 0 (slip_turn s i q c)
slip_packed s i q (Some e) = refl
slip_packed s i q None = refl

pub mend_slip : (s : List ℕ) (i : Item) (q : Spot) → slips s i.kind i.start ≡ true
    → mend_turn s (gives i q) ≡ slip_turn s i q (closing_of s i.kind i.start q.at)
mend_slip s i q b = rw b

pub mend_fine : (s : List ℕ) (i : Item) (q : Spot) → slips s i.kind i.start ≡ false → mend_turn s (gives i q) ≡ gives i q
mend_fine s i q b = rw b

module _ (s : List ℕ) (p : Spot) where
  module _ (r : Nine) (q : Spot) (e : one_found r q ≡ found_of 0 (next_at s p)) where
    abbrev i : Item
    i = (found_gives 0 (next_at s p) r q e).0

    gave : next_at s p ≡ gives i q
    gave = (found_gives 0 (next_at s p) r q e).1.0

    is_packed : r ≡ packed 0 i
    is_packed = (found_gives 0 (next_at s p) r q e).1.1

    pub next_in_lem : (q.at ≤ length s) × (r.start < length s)
    next_in_lem =
        let m : Moved s p i q = next_moved s p q i gave in
        (m.inside, subst (λ (x : Nine). x.start < length s) (sym is_packed) (omega (arith, m.whole.some, m.whole.ends)))

    turned : mended_at s p ≡ mend_turn s (gives i q)
    unfolding mended_at
    turned = ap (mend_turn s) gave

    pub slip_is : slips s r.kind r.start ≡ true → mend_nine s r q ≡ found_of 0 (mended_at s p)
    slip_is b =
        let t : slips s i.kind i.start ≡ true = ap (λ (x : Nine). slips s x.kind x.start) (sym is_packed) ∙ b in
        ap (λ (x : Nine). mend_nine s x q) is_packed
        ∙ slip_packed s i q (closing_of s i.kind i.start q.at)
        ∙ sym (ap (found_of 0) (turned ∙ mend_slip s i q t))

    pub fine_is : slips s r.kind r.start ≡ false → one_found r q ≡ found_of 0 (mended_at s p)
    fine_is b =
        let t : slips s i.kind i.start ≡ false = ap (λ (x : Nine). slips s x.kind x.start) (sym is_packed) ∙ b in
        e ∙ ap (found_of 0) (gave ∙ sym (turned ∙ mend_fine s i q t))

  pub end_is : None ≡ found_of 0 (next_at s p) → None ≡ found_of 0 (mended_at s p)
  unfolding mended_at
  end_is e = ap (found_of 0) (sym (ap (mend_turn s) (found_ends 0 (next_at s p) e)))
