-- UTF-8 at once for all parts: in a source that is UTF-8, a part between two places that lie in no character is UTF-8.
use Rattle.chars.specs.Utf8.{first_bad}
use Rattle.chars.proofs.Cuts.{good_cut}
use Rattle.std.specs.Prelude.{if◌then◌else◌, None, Option, Some}
use Rattle.laws.specs.Quoted.{within}
use Rattle.laws.proofs.Choice.{by_bool, no_yes}
use Rattle.laws.proofs.Places.{here, past}
use Rattle.items.specs.Whole.{items_in}
use Rattle.lexer_fields.specs.Fields.{Field, field_by, field_of, fields_on, fields_in, parts, is_in_order}
use Rattle.lexer_fields.specs.Answers.{continues, between, cutting_of, well_cut, Known, Unmarked, AllKnown}
use Rattle.lexer_fields.specs.declared.EndsCutting.{EndsCutting}
use Rattle.lexer_fields.specs.declared.EndsCutting.TheVariants as cutting
use Rattle.lexer_fields.proofs.Parts.{in_order}
use Rattle.lexer_fields.proofs.Progress.{Progress, rest, part, this, e}
use Prim.Native.Nat.{ℕ, zero, suc, ◌+◌, ◌-◌, ◌≤◌, ◌<◌}
use mathlib.Core.Path.{◌≡◌, refl, sym, ap, ◌∙◌, subst}
use mathlib.Core.Bool.{Bool, true, false}
use mathlib.Core.List.{List, [], ◌∷◌, ◌++◌}
use lib.ListN.{length, get_or, take, drop}
use lib.Seq.{get_or-drop, drop-drop}
use native.Mathlib.Omega.{arith}

-- ---- the parts

between_cons : (s : List ℕ) (e : ℕ) (ends : List ℕ) → between s (e ∷ ends) ≡ true → (continues s e ≡ false) × (between s ends ≡ true)
unfolding between
between_cons s e ends h = by_bool (continues s e)
    (λ a. no_yes (rw a at h))
    (λ a. (a, rw a at h))

module _ (mode : ℕ) (skip : Bool) where
  good_mark : (p : List ℕ) → first_bad p ≡ None → (field_of mode skip p).mark ≡ 0
  unfolding field_of
  good_mark p g = ap (λ (u : Option ℕ). (field_by u (items_in p mode skip)).mark) g

  mark_good : (p : List ℕ) → (field_of mode skip p).mark ≡ 0 → first_bad p ≡ None
  unfolding field_of
  mark_good p h = by (first_bad p) refl h
    where
      by : (u : Option ℕ) → first_bad p ≡ u → (field_by u (items_in p mode skip)).mark ≡ 0 → first_bad p ≡ None
      by None f z = f
      by (Some at) f z = absurd (omega (arith, z))

  parts_good : (s ends : List ℕ) (from : ℕ) → is_in_order (length s) from ends ≡ true → first_bad (drop from s) ≡ None → between s ends ≡ true
      → Unmarked (fields_on mode skip (parts s from ends))
  unfolding fields_on parts
  parts_good s [] from o g b = tt
  parts_good s (e ∷ ends) from o g b =
      let k = in_order (length s) from e ends o in
      let t = between_cons s e ends b in
      let q : from + (e - from) ≡ e = omega (arith, k.0) in
      let c = good_cut (drop from s) g (e - from) (ap (within 0x80 0xBF) (get_or-drop from s (e - from) 0 ∙ ap (λ (x : ℕ). get_or s x 0) q) ∙ t.0) in (
        good_mark (take (e - from) (drop from s)) c.0,
        parts_good s ends e k.2 (ap first_bad (sym (drop-drop (e - from) from s ∙ ap (λ (x : ℕ). drop x s) q)) ∙ c.1) t.1,
      )

  pub all_known : (s ends : List ℕ) (known : Bool) → is_in_order (length s) 0 ends ≡ true → known ≡ well_cut (first_bad s) (between s ends) → AllKnown known s ends mode skip
  all_known s ends known o q k = by (first_bad s) refl (sym q ∙ k)
    where
      by : (u : Option ℕ) → first_bad s ≡ u → well_cut (first_bad s) (between s ends) ≡ true → Unmarked (fields_in s ends mode skip)
      by None f h = parts_good s ends 0 o f (sym (ap (λ (v : Option ℕ). well_cut v (between s ends)) f) ∙ h)
      by (Some at) f h = no_yes (sym (ap (λ (v : Option ℕ). well_cut v (between s ends)) f) ∙ h)

unmarked_at : (a : List Field) (f : Field) (b : List Field) → Unmarked (a ++ (f ∷ b)) → f.mark ≡ 0
unmarked_at [] f b h = h.0
unmarked_at (g ∷ a) f b h = unmarked_at a f b h.1

-- the part at which a loop stands
module _ {s ends : List ℕ} {mode : ℕ} {skip : Bool} {i from n free : ℕ} {done : List Field} (g : Progress s ends mode skip i from n free done) (h : i < length ends) where
  pub this_known : (known : Bool) → AllKnown known s ends mode skip → Known known (part g h)
  this_known known a k =
      mark_good mode skip (part g h)
      (unmarked_at done (this g h) (fields_on mode skip (parts s (e g h) (drop (i + 1) ends)))
      (subst Unmarked (g.all ∙ ap (λ (l : List Field). done ++ l) (rest g h)) (a k)))

-- ---- the ends by the tests of the code

pub get_d_end : (l : List ℕ) (i : ℕ) → length l ≤ i → get_or l i 0 ≡ 0
get_d_end [] i h = nothing i
  where
    nothing : (i : ℕ) → ◌≡◌ {A = ℕ} (get_or [] i 0) 0
    nothing zero = refl
    nothing (suc i) = refl
get_d_end (b ∷ l) zero h = absurd (omega arith)
get_d_end (b ∷ l) (suc i) h = get_d_end l i (omega arith)

module _ (s ends : List ℕ) (i : ℕ) where
  pub between_done : length ends ≤ i → true ≡ between s (drop i ends)
  unfolding between
  between_done h = sym (ap (between s) (past ends i h))

  module _ (h : i < length ends) where
    next : between s (drop i ends) ≡ between s (get_or ends i 0 ∷ drop (i + 1) ends)
    next = ap (between s) (here ends i h)

    pub lies_inside : continues s (get_or ends i 0) ≡ true → false ≡ between s (drop i ends)
    unfolding between
    lies_inside k = sym (next ∙ rw k)

    pub lies_between : continues s (get_or ends i 0) ≡ false → between s (drop (i + 1) ends) ≡ between s (drop i ends)
    unfolding between
    lies_between k = sym (next ∙ rw k)

    -- what is noted of the ends before, and then of this one too
    abbrev Noted : Bool → Type 0
    Noted inside = (if inside then false else between s (drop i ends)) ≡ between s ends

    pub inside_noted : (inside : Bool) → Noted inside → continues s (get_or ends i 0) ≡ true → false ≡ between s ends
    inside_noted true v k = v
    inside_noted false v k = lies_inside k ∙ v

    pub outside_noted : (inside : Bool) → Noted inside → continues s (get_or ends i 0) ≡ false → (if inside then false else between s (drop (i + 1) ends)) ≡ between s ends
    outside_noted true v k = v
    outside_noted false v k = lies_between k ∙ v

-- ---- what a cutting says

module _ (ordered clean : Bool) where
  abbrev pub Says : EndsCutting → Type 0
  Says cutting.Disordered = ordered ≡ false
  Says cutting.Inside = (ordered ≡ true) × (false ≡ clean)
  Says cutting.Between = (ordered ≡ true) × (true ≡ clean)

pub says : (ordered clean : Bool) → Says ordered clean (cutting_of ordered clean)
says false clean = refl
says true false = (refl, refl)
says true true = (refl, refl)
