-- Over the bytes of a text the turns give what the definition of items says, up to the end or the stop. The machine of items stands
-- between: a turn does what the machine does with the character that became whole, and the machine gives the definition's items.
use Rattle.std.proofs.Common.{None, Option, Some}
use Rattle.refusal.specs.Refusals as refusal
use Rattle.chars.specs.Blank.{is_blank}
use Rattle.chars.specs.Encode.{is_scalar, utf8, width, bytes_of}
use Rattle.items.specs.declared.Next.{Next}
use Rattle.items.specs.declared.Next.TheVariants.{Eat, Stop}
use Rattle.items.specs.declared.Phase.{Phase}
use Rattle.items.specs.declared.Phase.TheVariants.{AfterHash}
use Rattle.items.specs.Classes.{first_of}
use Rattle.items.specs.Items.{Place, Item, item_of, items_of, range_after, standing, extent_items, kept, depth_after, depth_past}
use Rattle.items.specs.Kinds as kind
use Rattle.items.specs.Machine.{step_of, on_first}
use Rattle.items.specs.Meaning.{Meaning, means, source, meaning_of}
use Rattle.items.specs.Readers.{so_far}
use Rattle.items.specs.Run as M
use Rattle.items.specs.Whole.{limit}
use Rattle.items.proofs.Splits.{length_bytes}
use Rattle.chars.proofs.Width.{width-utf8}
use Rattle.laws.specs.Quoted.{code}
use Rattle.laws.proofs.Choice.{by_bool, if_all, if_is}
use Rattle.pieces.specs.declared.Stage.{Stage}
use Rattle.pieces.specs.declared.Stage.TheVariants.{Opening, Pound, FirstLine, Idle, Busy, Waiting, Stopped}
use Rattle.pieces.specs.declared.State.{State}
use Rattle.pieces.specs.Calls.{item, whole, becomes, at_depth, deeper, last_of, item_so_far, laid_at, Turn, on, stopped, begin, beyond, gives, report, on_next, on_stage}
use Rattle.pieces.specs.Drive.{heed, prepend}
use Rattle.pieces.specs.Expected.{Expected, longest}
use Rattle.pieces.specs.Given.{given, given_all}
use Rattle.pieces.proofs.Cuts.{settled, after_turn, settled_calm}
use Rattle.pieces.proofs.Kept.{Kept, Held, Staged, Calm, Within, laid_held, bytes_fit}
use Rattle.pieces.proofs.Becomes.{kept_pass, laid_in, kept_laid, first_in, kept_first, kept_range, kept_depth}
use Rattle.pieces.proofs.Pairs.{Shape, alone, pair, shape}
use Rattle.pieces.proofs.Phases.{Goes, first_sized}
use Rattle.pieces.proofs.Turns.{held_length, step_goes, kept_pound}
use Prim.Native.Nat.{ℕ, ◌+◌, ◌-◌, ◌≤◌, ◌<◌}
use mathlib.Core.Path.{◌≡◌, refl, sym, ap, subst, ◌∙◌}
use mathlib.Core.Bool.{Bool, true, false, ◌&&◌}
use mathlib.Core.List.{List, [], ◌∷◌, ◌++◌}
use lib.ListN.{length, take, drop}
use lib.Seq.{take_at, drop-append-le}
use lib.Dec.{eqb, ltb}
use native.Mathlib.Omega.{arith}
use borrow.Author.Tests.{ltb-true, ltb-false, eqb-true}

-- ---- the machine's state

abbrev pub mode_of : Stage → List ℕ → M.Mode
mode_of Opening raw = M.opening
mode_of Pound raw = M.pound
mode_of FirstLine raw = M.skipping
mode_of Idle raw = M.idle
mode_of (Busy st p) raw = M.busy st p raw
mode_of (Waiting st b) raw = M.idle
mode_of (Stopped n p) raw = M.idle

abbrev pub view : State → M.Running
view s = M.state (mode_of s.marks.stage (take s.marks.len s.buf)) s.marks.at (last_of s)

-- the state t after s: the characters q were read, the machine stands at m, and d brackets are open
pub record Arrives (s : State) (q : List ℕ) (m : M.Running) (d : ℕ) (t : State) : Type 0 where
  pub kept : Kept q [] t
  pub calm : Calm t.marks.stage
  pub same : view t ≡ m
  pub mode : report t ≡ report s
  pub skip : t.marks.skip ≡ s.marks.skip
  pub part : t.marks.part ≡ whole
  pub depth : t.marks.depth ≡ d

begin_calm : (s : State) (last : Place) (c : ℕ) → Calm (begin s last c).marks.stage
begin_calm s last c = if_all (λ (t : State). Calm t.marks.stage) (is_blank c) tt tt

-- a word that is a pair is no comment
pair_kept : (skip r : Bool) (set : Place) (s e : ℕ) → let i : Item = item_of r set s e (means kind.Identifier 0 (source s (s + 1))) in
    let j : Item = item_of r set s e (means kind.Identifier 0 (source (s + 1) e)) in kept skip (i ∷ j ∷ []) ≡ i ∷ j ∷ []
unfolding kept
pair_kept true r set s e = refl
pair_kept false r set s e = refl

module _ (bytes : List ℕ) where
  -- what a turn gives for the character c
  pub data Does (s : State) (q : List ℕ) (c : ℕ) (f : M.Fed) (t : Turn) : Type 0 where
    goes : (u : State) → Arrives s (q ++ (c ∷ [])) f.after (depth_past s.marks.depth (kept s.marks.skip f.out)) u
        → ((go : State → Expected) → after_turn t go ≡ prepend (given_all bytes s.marks.depth (kept s.marks.skip f.out)) (go u)) → Does s q c f t
    over_long : (st : ℕ) (p : Phase) (raw : List ℕ) → t ≡ stopped s refusal.long_item st → f.after ≡ M.state (M.busy st p raw) (s.marks.at + width c) (last_of s)
        → longest < s.marks.at + width c - st → Does s q c f t

  module _ {q g : List ℕ} {s : State} (k : Kept q g s) where
    -- ---- the items of an extent

    -- what stands beyond a pair is the same after its first item
    waited : (st : ℕ) (last : Place) (b : Option ℕ) → beyond (becomes s s.buf (Waiting st b) s.marks.at s.marks.len last) last b ≡ beyond s last b
    waited st last None = refl
    waited st last (Some c) = refl

    module _ (after : List ℕ) (text : bytes_of q ++ after ≡ bytes) (st : ℕ) (h : Held q s st) where
      raw_bytes_lem : take (s.marks.at - st) (drop st bytes) ≡ take s.marks.len s.buf
      raw_bytes_lem =
          ap (λ (l : List ℕ). take (s.marks.at - st) (drop st l)) (sym text)
          ∙ ap (take (s.marks.at - st)) (drop-append-le st (bytes_of q) after (omega (arith, length_bytes q, k.place, h.ends)))
          ∙ ap (λ (l : List ℕ). take (s.marks.at - st) (l ++ after)) h.bytes
          ∙ take_at (take s.marks.len s.buf) after (s.marks.at - st) (omega (arith, held_length k, h.ends))

      pub gives_all : (b : Option ℕ) (last set : Place) (ms : List Meaning) → Shape st s.marks.at (take s.marks.len s.buf) ms → (go : State → Expected)
          → ((d : ℕ) → settled (beyond (at_depth d s) last b) go ≡ go (beyond (at_depth d s) last b))
          → after_turn (gives s st last b (items_of (report s) set st s.marks.at ms)) go
          ≡ prepend (given_all bytes s.marks.depth (kept s.marks.skip (items_of (report s) set st s.marks.at ms)))
          (go (beyond (at_depth (depth_past s.marks.depth (kept s.marks.skip (items_of (report s) set st s.marks.at ms))) s) last b))
      unfolding kept given_all depth_past
      gives_all b last set ms (alone m) go e =
          let i : Item = item_of (report s) set st s.marks.at m in
          by_bool (s.marks.skip && eqb m.kind kind.Comment)
          (λ f. rw f)
          (λ f. rw f (
          ap (heed (item (given s.marks.depth (take s.marks.len s.buf) i))) (e (depth_after m.kind s.marks.depth))
          ∙ ap (λ (l : List ℕ). heed (item (given s.marks.depth l i)) (go (beyond (deeper m.kind s) last b))) (sym raw_bytes_lem)))
      gives_all b last set ms (pair two) go e =
          let i : Item = item_of (report s) set st s.marks.at (means kind.Identifier 0 (source st (st + 1))) in
          let j : Item = item_of (report s) set st s.marks.at (means kind.Identifier 0 (source (st + 1) s.marks.at)) in
          let d : ℕ = s.marks.depth in
          ap (λ (u : State). heed (item (given d (take s.marks.len s.buf) i)) (heed (item (given d (take s.marks.len s.buf) j)) (go u))) (waited st last b)
          ∙ ap (λ (l : List ℕ). heed (item (given d l i)) (heed (item (given d l j)) (go (beyond s last b)))) (sym raw_bytes_lem)
          ∙ ap (λ (l : List Item). prepend (given_all bytes d l) (go (beyond (at_depth (depth_past d l) s) last b)))
          (sym (pair_kept s.marks.skip (report s) set st s.marks.at))

    -- ---- a character

    module _ (c : ℕ) (scalar : is_scalar c ≡ true) (room : s.marks.at + width c ≤ limit) where
      first_held : take (width c) (laid_at 0 (utf8 c) s.buf) ≡ utf8 c
      first_held = ap (λ (n : ℕ). take n (laid_at 0 (utf8 c) s.buf)) e ∙ laid_held 0 (utf8 c) s.buf (omega arith)
        where
          e : width c ≡ 0 + length (utf8 c)
          e = omega (arith, width-utf8 c)

      arrives_begin : (d : ℕ) (last : Place) → Within last → Arrives s (q ++ (c ∷ [])) (M.begin s.marks.at last c) d (begin (at_depth d s) last c)
      arrives_begin d last w =
          let b : Stage = Busy s.marks.at (on_first (first_of c)) in
          by_bool (is_blank c)
          (λ e. rw e (record { kept = kept_pass (kept_depth k d) c scalar room Idle last w tt; calm = tt; same = refl; mode = refl; skip = refl; part = refl; depth = refl }))
          (λ e. rw e (record {
            kept = kept_first (kept_depth k d) c scalar room b last w (first_in (kept_depth k d) c scalar room b last, first_sized (width c) c);
            calm = tt;
            same = ap (λ (l : List ℕ). M.state (M.busy s.marks.at (on_first (first_of c)) l) (s.marks.at + width c) last) first_held;
            mode = refl;
            skip = refl;
            part = refl;
            depth = refl;
          }))

      module _ (after : List ℕ) (text : bytes_of q ++ after ≡ bytes) where
        next_does : (st : ℕ) → Held q s st → (n : Next) → Goes (item_so_far s) c n
            → Does s q c (M.on_next (report s) n (last_of s) st (item_so_far s) c) (on_next s st c n)
        unfolding extent_items kept given_all depth_past
        next_does st h (Eat p) z =
            let n : ℕ = s.marks.len + width c in
            let f : M.Fed = M.on_next (report s) (Eat p) (last_of s) st (item_so_far s) c in
            if_is (Does s q c f) (ltb longest n)
            (λ e. over_long st p (take s.marks.len s.buf ++ utf8 c) refl refl (omega (arith, ltb-true longest n e, h.ends)))
            (λ e. goes _
            (record {
              kept = kept_laid k c scalar room (Busy st p) s.marks.len n (last_of s) k.last refl (ltb-false longest n e)
                  (laid_in k c scalar room (Busy st p) st s.marks.len n (last_of s) refl (ltb-false longest n e) h.ends h.bytes, rw (held_length k) at z);
              calm = tt;
              same = ap (λ (l : List ℕ). M.state (M.busy st p l) (s.marks.at + width c) (last_of s)) next_held;
              mode = refl;
              skip = refl;
              part = refl;
              depth = refl;
            })
            (λ go. refl))
          where
            next_held : take (s.marks.len + width c) (laid_at s.marks.len (utf8 c) s.buf) ≡ take s.marks.len s.buf ++ utf8 c
            next_held =
                ap (λ (n : ℕ). take (s.marks.len + n) (laid_at s.marks.len (utf8 c) s.buf)) (sym (width-utf8 c))
                ∙ laid_held s.marks.len (utf8 c) s.buf (omega (arith, k.full, k.small))
        next_does st h (Stop o) z =
            let last : Place = range_after (report s) (last_of s) st o (item_so_far s) in
            let w : Within last = kept_range k st o (item_so_far s) z (omega (arith, h.ends, k.far)) (omega (arith, k.far)) (omega (arith, h.ends, k.far, bytes_fit s)) in
            let d : ℕ = depth_past s.marks.depth (kept s.marks.skip (extent_items (report s) (last_of s) st o (item_so_far s))) in
            goes (begin (at_depth d s) last c) (arrives_begin d last w)
            (λ go. gives_all after text st h (Some c) last (range_after (report s) (standing (report s) (last_of s)) st o (item_so_far s))
            (meaning_of (report s) o st s.marks.at (take s.marks.len s.buf))
            (shape st s.marks.at (take s.marks.len s.buf) (report s) o) go (λ e. settled_calm (begin (at_depth e s) last c) (begin_calm (at_depth e s) last c) go))

        staged : {b : Stage} → s.marks.stage ≡ b → Staged q s b
        staged e = subst (Staged q s) e k.staged

        quiet_begin : Does s q c (M.quietly (M.begin s.marks.at (last_of s) c)) (on (begin s (last_of s) c))
        unfolding kept given_all depth_past
        quiet_begin = goes (begin s (last_of s) c) (arrives_begin s.marks.depth (last_of s) k.last) (λ go. refl)

        quiet_line : Does s q c (M.quietly (M.state M.skipping (s.marks.at + width c) (last_of s)))
            (on (becomes s s.buf FirstLine (s.marks.at + width c) 0 (last_of s)))
        unfolding kept given_all depth_past
        quiet_line =
            goes _ (record { kept = kept_pass k c scalar room FirstLine (last_of s) k.last tt; calm = tt; same = refl; mode = refl; skip = refl; part = refl; depth = refl }) (λ go. refl)

        quiet_pound : q ≡ [] → c ≡ code "#" → Does s q c (M.quietly (M.state M.pound (s.marks.at + width c) (last_of s)))
            (on (becomes s (laid_at 0 (utf8 c) s.buf) Pound (s.marks.at + width c) (width c) (last_of s)))
        unfolding kept given_all depth_past
        quiet_pound e f =
            goes _ (record { kept = kept_pound k c scalar room e f; calm = tt; same = refl; mode = refl; skip = refl; part = refl; depth = refl }) (λ go. refl)

        pub stage_does : (b : Stage) → s.marks.stage ≡ b → Calm b
            → Does s q c (M.feed_mode (report s) (mode_of b (take s.marks.len s.buf)) s.marks.at (last_of s) c) (on_stage s b c)
        stage_does Opening e z = by_bool (eqb c (code "#")) (λ f. rw f (quiet_pound (staged e) (eqb-true c (code "#") f))) (λ f. rw f quiet_begin)
        stage_does Pound e z =
            let pound : Staged q s Pound = staged e in
            by_bool (eqb c (code "!")) (λ f. rw f quiet_line)
            (λ f. rw f (subst (λ (l : List ℕ). Does s q c (M.on_next (report s) (step_of (report s) AfterHash (so_far l s.marks.at) c) (last_of s) 0 (so_far l s.marks.at) c)
            (on_next s 0 c (step_of (report s) AfterHash (item_so_far s) c)))
            pound.1.1
            (next_does 0 pound.0 (step_of (report s) AfterHash (item_so_far s) c) (step_goes k c scalar room 0 pound.0 AfterHash tt))))
        stage_does FirstLine e z = by_bool (eqb c (code "\n")) (λ f. rw f quiet_begin) (λ f. rw f quiet_line)
        stage_does Idle e z = quiet_begin
        stage_does (Busy st p) e z =
            let held : Staged q s (Busy st p) = staged e in
            next_does st held.0 (step_of (report s) p (item_so_far s) c) (step_goes k c scalar room st held.0 p held.1)
        stage_does (Waiting st b) e z = absurd z
        stage_does (Stopped n p) e z = absurd z
