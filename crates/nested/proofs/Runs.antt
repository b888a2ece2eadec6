-- Runs of simple data, and the levels that start with one. Assumes nothing.
use Prim.Native.Nat.{ℕ, suc, ◌+◌, ◌-◌, ◌≤◌, ◌<◌}
use native.Mathlib.Omega.{arith}
use mathlib.Core.Path.{◌≡◌, refl, sym, ap, subst, ◌∙◌}
use mathlib.Core.Bool.{Bool, true, false}
use mathlib.Core.List.{List, [], ◌∷◌, ◌++◌, append-nil, append_assoc}
use lib.ListN.{length, length-append}
use borrow.Author.Tests.{ne_eqb}
use Rattle.laws.proofs.Choice.{no_yes}
use Rattle.nested.specs.Items.{count_of, class_at}
use Rattle.nested.specs.Grammar.{Node, node, closer, kind_of}
use Rattle.nested.specs.Reader.{Level, level, Levels, state, give, gained, tailed}
use Rattle.nested.specs.Said.{got, reads, Wrote, Put, Simples, Run, loose, grown, begun_of, LevelSaid, SaidBy, SequenceSaid, dropping, is_plan, arrive}
use Rattle.nested.specs.declared.Class.TheVariants.{Simple, Closes}
use Rattle.nested.specs.declared.Frame.{Frame}
use Rattle.nested.specs.declared.Frame.TheVariants.{Plan, Quoting, Dropping, Fresh, Holds, Dotted, Tailed}
use Rattle.nested.specs.declared.Read.{Read}
use Rattle.nested.specs.Errors.{Answer}
use Rattle.std.proofs.Common.{Ok, Err}
use Rattle.nested.proofs.Steps.{keeps, give-keeps, closes_on}
use Rattle.nested.proofs.Places.{reads_on}
use Rattle.nested.proofs.Memory.{wrote_none, wrote_more, wrote_node}
use Rattle.nested.proofs.Turns.{OpenedSaid}

-- ---- frames that take one datum after another

gained_twice : (f : Frame) → loose f ≡ true → gained (gained f) ≡ gained f
gained_twice Plan h = refl
gained_twice Quoting h = no_yes h
gained_twice Dropping h = no_yes h
gained_twice (Fresh s) h = refl
gained_twice (Holds s) h = refl
gained_twice (Dotted s) h = no_yes h
gained_twice (Tailed s) h = no_yes h

loose-gained : (f : Frame) → loose f ≡ true → loose (gained f) ≡ true
loose-gained Plan h = refl
loose-gained Quoting h = no_yes h
loose-gained Dropping h = no_yes h
loose-gained (Fresh s) h = refl
loose-gained (Holds s) h = refl
loose-gained (Dotted s) h = no_yes h
loose-gained (Tailed s) h = no_yes h

loose-tailed : (f : Frame) → loose f ≡ true → tailed f ≡ 0
loose-tailed Plan h = refl
loose-tailed Quoting h = refl
loose-tailed Dropping h = refl
loose-tailed (Fresh s) h = refl
loose-tailed (Holds s) h = refl
loose-tailed (Dotted s) h = refl
loose-tailed (Tailed s) h = no_yes h

loose-keeps : (f : Frame) → loose f ≡ true → keeps f ≡ true
loose-keeps Plan h = refl
loose-keeps Quoting h = no_yes h
loose-keeps Dropping h = no_yes h
loose-keeps (Fresh s) h = refl
loose-keeps (Holds s) h = refl
loose-keeps (Dotted s) h = refl
loose-keeps (Tailed s) h = refl

grown-loose : (ns : List Node) (f : Frame) → loose f ≡ true → loose (grown ns f) ≡ true
grown-loose [] f h = h
grown-loose (n ∷ ns) f h = loose-gained f h

grown_more : (ns : List Node) (n : Node) (f : Frame) → loose f ≡ true → gained (grown ns f) ≡ grown (ns ++ (n ∷ [])) f
grown_more [] n f h = refl
grown_more (m ∷ ns) n f h = gained_twice f h

-- ---- a run

module _ (s : List ℕ) (from : ℕ) where
  pub simples_none : from ≤ count_of s → Simples s from from
  simples_none h = record {
    ns = [];
    inside = h;
    count = omega arith;
    goes = λ f i ms ls l. ap (λ (ns : List Node). reads s (state (level f i ns) ls) from) (sym (append-nil ms));
  }

  module _ (at k : ℕ) (in_text : at < count_of s) (e : class_at s at ≡ Simple k) where
    step : (f : Frame) (i : ℕ) (ms : List Node) (ls : List Level) → loose f ≡ true
        → reads s (state (level f i ms) ls) at ≡ reads s (state (level (gained f) i (ms ++ (node k at 0 ∷ []))) ls) (at + 1)
    step f i ms ls l = reads_on s at (length ls) (Simple k) f i ms ls in_text (sym e) refl (loose-tailed f l)
        ∙ ap (λ (st : Levels). reads s st (at + 1)) (give-keeps f i ms (node k at 0 ∷ []) ls (loose-keeps f l))

    pub simples_more : Simples s from at → Simples s from (at + 1)
    simples_more R = record {
      ns = R.ns ++ (node k at 0 ∷ []);
      inside = omega arith;
      count = omega (arith, R.count, length-append R.ns (node k at 0 ∷ []));
      goes = λ f i ms ls l. R.goes f i ms ls l ∙ step (grown R.ns f) i (ms ++ R.ns) ls (grown-loose R.ns f l)
          ∙ ap (λ (g : Frame). reads s (state (level g i ((ms ++ R.ns) ++ (node k at 0 ∷ []))) ls) (at + 1)) (grown_more R.ns (node k at 0) f l)
          ∙ ap (λ (ns : List Node). reads s (state (level (grown (R.ns ++ (node k at 0 ∷ [])) f) i ns) ls) (at + 1)) (append_assoc ms R.ns (node k at 0 ∷ []));
    }

    pub run_more : (w v : ℕ) (old mid new : List ℕ) → length mid ≡ length old → (R : Run s from w old mid at) → v ≡ w + length R.simples.ns → Put v k at 0 mid new
        → Run s from w old new (at + 1)
    unfolding simples_more
    run_more w v old mid new l R c p = record {
      simples = simples_more R.simples;
      wrote = wrote_more s w R.simples.ns (node k at 0 ∷ []) old mid new l R.wrote
          (subst (λ (n : ℕ). Wrote s n (node k at 0 ∷ []) mid new) c
          (wrote_node s v k at [] mid mid new refl in_text (omega arith) (wrote_none s (v + 1) mid) p));
    }

  pub run_none : (w : ℕ) (old : List ℕ) → from ≤ count_of s → Run s from w old old from
  unfolding simples_none
  run_none w old h = record { simples = simples_none h; wrote = wrote_none s w old }

  no_room : (w : ℕ) (old : List ℕ) → length old < 3 → (ns : List Node) → Wrote s w ns old old
  unfolding Wrote
  no_room w old h [] = wrote_none s w old
  no_room w old h (n ∷ ns) = λ r. absurd (let x : ⊥ = omega (arith, r.1) in x)

  pub run_unwritten : (w end : ℕ) (old : List ℕ) → length old < 3 → Simples s from end → Run s from w old old end
  run_unwritten w end old h R = record { simples = R; wrote = no_room w old h R.ns }

-- ---- a level, from the record that opens it on

-- what is said of a sequence, said of the level that it fills
sequence_level : (s : List ℕ) (from depth : ℕ) (f : Frame) (first : ℕ) (old new : List ℕ) (r : Answer Read) → is_plan f ≡ false
    → SequenceSaid s from depth f first old new r → LevelSaid s from depth f first old new r
sequence_level s from depth f first old new r p h = subst (λ (b : Bool). SaidBy b s from depth f first old new r) p h

pub opened_sequence : (s : List ℕ) (at depth : ℕ) (f : Frame) (w : ℕ) (old new : List ℕ) (r : Answer Read) → is_plan f ≡ false
    → SequenceSaid s (at + 1) depth f (w + 1) old new r → OpenedSaid s at depth f w old new r
opened_sequence s at depth f w old new (Ok r) p h =
    let L = sequence_level s (at + 1) depth f (w + 1) old new (Ok r) p h in (
      L.0,
      record { past = omega (arith, L.1.past); inside = L.1.inside; count = L.1.count; few = L.1.few },
      L.2,
      λ m ls e. L.3 at [] m ls e,
    )
opened_sequence s at depth f w old new (Err x) q h = λ m ls e. sequence_level s (at + 1) depth f (w + 1) old new (Err x) q h at [] m ls e

begun_grown : (b : ℕ) (ns : List Node) → begun_of b (length ns) ≡ grown ns (Fresh b)
begun_grown b [] = refl
begun_grown b (n ∷ ns) = rw (ne_eqb (length (n ∷ ns)) 0 (λ q. omega arith))

grown_inner : (b : ℕ) (ns : List Node) → is_plan (grown ns (Fresh b)) ≡ false
grown_inner b [] = refl
grown_inner b (n ∷ ns) = refl

grown_kept : (b : ℕ) (ns : List Node) → dropping (grown ns (Fresh b)) ≡ false
grown_kept b [] = refl
grown_kept b (n ∷ ns) = refl

-- a bracket, with the simple data that it starts with
module _ (s : List ℕ) (at depth w b : ℕ) (old mid : List ℕ) (end : ℕ) (few-nodes : w ≤ at) (R : Run s (at + 1) (w + 1) old mid end) where
  inner : (m : Level) (ls : List Level)
      → reads s (state (level (Fresh b) at []) (m ∷ ls)) (at + 1) ≡ reads s (state (level (grown R.simples.ns (Fresh b)) at R.simples.ns) (m ∷ ls)) end
  inner m ls = R.simples.goes (Fresh b) at [] (m ∷ ls) refl

  shuts : (ns : List Node) (m : Level) (ls : List Level) → end < count_of s → class_at s end ≡ Closes (closer b) → suc (length ls) ≡ depth
      → reads s (state (level (grown ns (Fresh b)) at ns) (m ∷ ls)) end ≡ reads s (give (node (kind_of b) at (length ns) ∷ ns) m ls) (end + 1)
  shuts [] m ls h e d = reads_on s end depth (Closes (closer b)) (Fresh b) at [] (m ∷ ls) h (sym e) d (closes_on b)
  shuts (n ∷ ns) m ls h e d = reads_on s end depth (Closes (closer b)) (Holds b) at (n ∷ ns) (m ∷ ls) h (sym e) d (closes_on b)

  pub opened_leaf : (v kind : ℕ) → end < count_of s → class_at s end ≡ Closes (closer b) → v ≡ w + (end - at) → kind ≡ kind_of b
      → OpenedSaid s at depth (Fresh b) w old mid (Ok (got (end + 1) v kind))
  opened_leaf v kind h e c k = (
    R.simples.ns,
    record {
      past = omega (arith, R.simples.count);
      inside = omega arith;
      count = omega (arith, R.simples.count);
      few = omega (arith, R.simples.count);
    },
    R.wrote,
    λ m ls d. inner m ls ∙ shuts R.simples.ns m ls h e d
        ∙ ap (λ (n : ℕ). reads s (give (node n at (length R.simples.ns) ∷ R.simples.ns) m ls) (end + 1)) (sym k),
  )

  -- the frame of the rest
  rest_frame : (g : Frame) → g ≡ begun_of b (end - at - 1) → g ≡ grown R.simples.ns (Fresh b)
  rest_frame g e =
      let q : end - at - 1 ≡ length R.simples.ns = omega (arith, R.simples.count) in
      e ∙ ap (λ (n : ℕ). begun_of b n) q ∙ begun_grown b R.simples.ns

  pub rest_inner : (g : Frame) → g ≡ begun_of b (end - at - 1) → is_plan g ≡ false
  rest_inner g e = ap is_plan (rest_frame g e) ∙ grown_inner b R.simples.ns

  pub rest_few : w + (end - at) ≤ end
  rest_few = omega (arith, R.simples.count)

  module _ (g : Frame) (v : ℕ) (new : List ℕ) (e : g ≡ begun_of b (end - at - 1)) (c : v ≡ w + (end - at)) (l : length mid ≡ length old) where
    rest_level : (r : Answer Read) → SequenceSaid s end depth g v mid new r → LevelSaid s end depth (grown R.simples.ns (Fresh b)) v mid new r
    rest_level r h = subst (λ (f : Frame). LevelSaid s end depth f v mid new r) (rest_frame g e) (sequence_level s end depth g v mid new r (rest_inner g e) h)

    rest_place : v ≡ w + 1 + length R.simples.ns
    rest_place = omega (arith, R.simples.count)

    pub opened_run : (r : Answer Read) → SequenceSaid s end depth g v mid new r → OpenedSaid s at depth (Fresh b) w old new r
    opened_run (Ok r) h =
        let L = rest_level (Ok r) h in (
          R.simples.ns ++ L.0,
          record {
            past = omega (arith, L.1.past, R.simples.count);
            inside = L.1.inside;
            count = omega (arith, L.1.count, rest_place, length-append R.simples.ns L.0);
            few = L.1.few;
          },
          wrote_more s (w + 1) R.simples.ns L.0 old mid new l R.wrote (subst (λ (n : ℕ). Wrote s n L.0 mid new) rest_place L.2),
          λ m ls d. inner m ls ∙ L.3 at R.simples.ns m ls d
              ∙ ap (λ (b : Bool). reads s (arrive b (node r.kind at (length (R.simples.ns ++ L.0)) ∷ (R.simples.ns ++ L.0)) m ls) r.next) (grown_kept b R.simples.ns),
        )
    opened_run (Err x) h = λ m ls d. inner m ls ∙ rest_level (Err x) h at R.simples.ns m ls d
