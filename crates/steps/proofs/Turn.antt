-- One turn of the scan.
use Prim.Native.Nat.{ℕ, zero, suc, ◌+◌, ◌-◌, ◌≤◌}
use mathlib.Core.Path.{◌≡◌, refl, sym, ap, ◌∙◌}
use mathlib.Core.Bool.{Bool}
use mathlib.Core.List.{List, [], ◌∷◌, ◌++◌}
use lib.ListN.{length, take, drop}
use lib.Seq.{drop-drop, take-nil}
use native.Mathlib.Omega.{arith}
use Rattle.laws.proofs.Choice.{impossible}
use Rattle.laws.proofs.Places.{past, take_short}
use Rattle.chars.specs.declared.Decoded.TheVariants as decoded
use Rattle.chars.specs.Encode.{utf8}
use Rattle.chars.specs.Utf8.{front, placed, sequences, chars}
use Rattle.chars.proofs.Chars.{CharAt, nothing_at}
use Rattle.chars.proofs.Width.{wide}
use Rattle.items.specs.declared.Outcome.{Outcome}
use Rattle.items.specs.declared.Phase.{Phase}
use Rattle.items.specs.declared.Next.TheVariants.{Eat, Stop}
use Rattle.items.specs.Readers.{so_far}
use Rattle.items.specs.Machine.{step_of, finish_of, scan_of, depth_of}
use Rattle.items.proofs.Deep.{deep_eat}
use Rattle.steps.specs.Scan.{part, answer}

-- a part goes on with the part behind it
take_more : (l : List ℕ) (a b : ℕ) → take (a + b) l ≡ take a l ++ take b (drop a l)
take_more l zero b = let e : 0 + b ≡ b = omega arith in rw e
take_more [] (suc a) b = let e : suc a + b ≡ suc (a + b) = omega arith in rw e (sym (take-nil b))
take_more (x ∷ l) (suc a) b = let e : suc a + b ≡ suc (a + b) = omega arith in rw e (ap (λ (r : List ℕ). x ∷ r) (take_more l a b))

-- an item ends at a place that is no less than its length
pub part_short : (s : List ℕ) (a at : ℕ) → length (part s a at) ≤ at
part_short s a at = omega (arith, take_short (at - a) (drop a s))

no_chars : chars [] ≡ []
unfolding chars sequences
no_chars = refl

-- the item from a on in the text s: what the scan answers from a phase and a place on, and what each turn does
module _ (s : List ℕ) (report : Bool) (a : ℕ) where
  -- the item with the character at its end
  part_more : (at c next : ℕ) → a ≤ at → CharAt s at c next → part s a next ≡ part s a at ++ utf8 c
  part_more at c next h k =
      let e : next - a ≡ (at - a) + (next - at) = omega (arith, k.on) in
      let d : a + (at - a) ≡ at = omega arith in
      rw e (take_more (drop a s) (at - a) (next - at) ∙ ap (λ (l : List ℕ). part s a at ++ l)
      (ap (take (next - at)) (drop-drop (at - a) a s ∙ ap (λ (i : ℕ). drop i s) d) ∙ k.bytes))

  module _ (p : Phase) (at c next : ℕ) (k : CharAt s at c next) where
    pub turn_eat : (q : Phase) → a ≤ at → step_of report p (so_far (part s a at) at) c ≡ Eat q → answer s report a p at ≡ answer s report a q next
    unfolding scan_of
    turn_eat q h e = rw k.first (rw (e, scan_of) (rw (← (part_more at c next h k), ← k.on)))

    pub turn_stop : (o : Outcome) → step_of report p (so_far (part s a at) at) c ≡ Stop o → answer s report a p at ≡ record { what = o; end = at }
    unfolding scan_of
    turn_stop o e = rw k.first (rw (e, scan_of))

    pub turn_deep : (q : Phase) → depth_of p ≤ at → step_of report p (so_far (part s a at) at) c ≡ Eat q → depth_of q ≤ next
    turn_deep q h e = omega (arith, deep_eat report p (so_far (part s a at) at) c q e, k.on, wide c)

  pub turn_last : (p : Phase) (at : ℕ) → chars (drop at s) ≡ [] → answer s report a p at ≡ record { what = finish_of p (part s a at); end = at }
  unfolding scan_of
  turn_last p at e = rw e

  pub turn_out : (p : Phase) (at : ℕ) → length s ≤ at → answer s report a p at ≡ record { what = finish_of p (part s a at); end = at }
  turn_out p at h = turn_last p at (rw (past s at h) no_chars)

-- where no character stands
module _ (s : List ℕ) (at : ℕ) where
  pub none_bad : decoded.Bad ≡ placed at (front (drop at s)) → chars (drop at s) ≡ []
  none_bad e = nothing_at s at decoded.Bad e (λ c n h. impossible cc)

  pub none_cut : decoded.Cut ≡ placed at (front (drop at s)) → chars (drop at s) ≡ []
  none_cut e = nothing_at s at decoded.Cut e (λ c n h. impossible cc)

  pub none_end : decoded.End ≡ placed at (front (drop at s)) → chars (drop at s) ≡ []
  none_end e = nothing_at s at decoded.End e (λ c n h. impossible cc)
