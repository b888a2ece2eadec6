-- An end call never says "more", in any state: what ends a reading is an item, "finished" or a refusal, and a turn that goes on is told as
-- "finished".
use Rattle.std.proofs.Common.{None, Option}
use Prim.Native.Nat.{ℕ}
use mathlib.Core.Path.{◌≡◌, refl, ap}
use mathlib.Core.Bool.{◌&&◌}
use mathlib.Core.List.{List, [], ◌∷◌}
use lib.Dec.{eqb, ltb}
use native.Mathlib.Omega.{arith}
use Rattle.laws.proofs.Choice.{if_all}
use Rattle.items.specs.Items.{Place, Item, range_after, extent_items}
use Rattle.items.specs.declared.Outcome.{Outcome}
use Rattle.items.specs.declared.Phase.TheVariants.{AfterHash}
use Rattle.items.specs.Machine.{finish_of}
use Rattle.items.specs.Kinds as kind
use Rattle.pieces.specs.declared.Stage.{Stage}
use Rattle.pieces.specs.declared.Stage.TheVariants.{Opening, Pound, FirstLine, Idle, Busy, Waiting, Stopped}
use Rattle.pieces.specs.declared.State.{State}
use Rattle.pieces.specs.Bounds.{is_in_bounds}
use Rattle.pieces.specs.Calls.{What, item, more, finished, refused, Reply, Turn, gives, replied, ends, unless_cut, end_stage, end_unless_stopped, declared, item_so_far, last_of, report, end_of}
use Rattle.pieces.specs.Expected.{longest}

-- 1 for "more"
abbrev asks : What → ℕ
asks (item g) = 0
asks more = 1
asks finished = 0
asks (refused n p) = 0

abbrev Ends : Reply → Type 0
Ends r = asks r.what ≡ 0

gives_ends : (s : State) (st : ℕ) (last : Place) (b : Option ℕ) (l : List Item) → Ends (replied (gives s st last b l))
gives_ends s st last b [] = refl
gives_ends s st last b (i ∷ []) = if_all (λ (t : Turn). Ends (replied t)) (s.marks.skip && eqb i.kind kind.Comment) refl refl
gives_ends s st last b (i ∷ j ∷ is) = refl

item_ends : (s : State) (st : ℕ) (o : Outcome) → Ends (replied (ends s st o None))
item_ends s st o = gives_ends s st (range_after (report s) (last_of s) st o (item_so_far s)) None (extent_items (report s) (last_of s) st o (item_so_far s))

cut_ends : (s : State) (r : Reply) → Ends r → Ends (unless_cut s r)
cut_ends s r h = if_all Ends (eqb s.marks.part.count 0) h refl

stage_ends : (s : State) (g : Stage) → Ends (end_stage s g)
stage_ends s Opening = cut_ends s (record { taken = 0; what = finished; state = s }) refl
stage_ends s Pound = cut_ends s _ (item_ends s 0 (finish_of AfterHash (item_so_far s).bytes))
stage_ends s FirstLine = cut_ends s (record { taken = 0; what = finished; state = s }) refl
stage_ends s Idle = cut_ends s (record { taken = 0; what = finished; state = s }) refl
stage_ends s (Busy st p) = cut_ends s _ (item_ends s st (finish_of p (item_so_far s).bytes))
stage_ends s (Waiting st b) = refl
stage_ends s (Stopped n p) = refl

declared_ends : (s : State) (g : Stage) → Ends (end_unless_stopped s g)
declared_ends s Opening = stage_ends (declared s) Opening
declared_ends s Pound = stage_ends (declared s) Pound
declared_ends s FirstLine = stage_ends (declared s) FirstLine
declared_ends s Idle = stage_ends (declared s) Idle
declared_ends s (Busy st p) = stage_ends (declared s) (Busy st p)
declared_ends s (Waiting st b) = stage_ends (declared s) (Waiting st b)
declared_ends s (Stopped n p) = refl

call_ends : (s : State) (room : ℕ) → Ends (end_of s room)
unfolding end_of
call_ends s room = if_all Ends (is_in_bounds s) (if_all Ends (ltb room longest) refl (declared_ends s s.marks.stage)) refl

pub end_never_more : (s : State) (room : ℕ) → (end_of s room).what ≡ more → ⊥
end_never_more s room h = omega (arith, ap asks h, call_ends s room)
