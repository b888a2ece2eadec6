-- An item that is read in report mode has the outcome that `Own` describes. On the way a backslash's place lies between the item's start and the
-- place read to, and so what closes or breaks off an escape sets a range as `PointsAt` says.
use Prim.Native.Nat.{ℕ, ◌+◌, ◌-◌, ◌^◌, ◌≤◌, ◌<◌}
use mathlib.Core.Path.{◌≡◌, refl, ap, ◌∙◌}
use mathlib.Core.Bool.{true}
use mathlib.Core.List.{List, []}
use lib.ListN.{length, drop, length-append, length-drop}
use native.Mathlib.Omega.{arith}
use borrow.Author.Tests.{lt-ltb}
use Rattle.laws.specs.Quoted.{code}
use Rattle.chars.specs.Encode.{utf8, width}
use Rattle.chars.proofs.Width.{wide, width_le, width-utf8}
use Rattle.items.specs.declared.Outcome.TheVariants.{Token, ErrorAt}
use Rattle.items.specs.Kinds as kind
use Rattle.items.specs.Points.{PointsAt}
use Rattle.items.specs.Readers.{SoFar, so_far, eat, past_failing, read_item}
use Rattle.items.proofs.Failing.{past_within}
use Rattle.items.proofs.Own.{Own}
use Rattle.items.proofs.Phases.{Says, knows_of}
use Rattle.items.proofs.Walk.{WalkEnds, WalkSteps, silent, decides, walk_start, walk_read}

backslash_width : width (code "\\") ≡ 1
unfolding width
backslash_width = refl

-- what is known in a phase of an item that starts at s
abbrev says : ℕ → SoFar → Says
says s i = record {
  nest = λ d. Unit {0};
  closed = λ k. Unit {0};
  escape = λ from. (s ≤ from) × (from + 1 ≡ i.at);
  brace = λ from. (s ≤ from) × (from < i.at);
  digits = λ closer from m. (s ≤ from) × (from + (length i.bytes - m) < i.at);
  done = Own s i.at;
}

module _ (s : ℕ) where
  token : (e k d : ℕ) → k < kind.first_error → d < 2 ^ 32 → Own s e (Token k d)
  token e k d h _ = rw (lt-ltb k kind.first_error h) tt

  over : (i : SoFar) → WalkEnds (knows_of (says s i)) i.bytes (Own s i.at)
  over i = record {
    word = tt;
    run = tt;
    comment = tt;
    unquote = λ _. tt;
    here = λ _ _. tt;
    string = λ _. tt;
    lined = λ _ _. tt;
    open_string = tt;
    open_lined = tt;
    open_nest = λ _ _. tt;
    decided = decides i.bytes (Own s i.at) (token i.at) tt tt (λ _. tt);
    done = λ _ h. h;
  }

  module _ (i : SoFar) (c : ℕ) (later : s ≤ i.at) where
    -- what fails in the bytes t, which end where the item so far does
    own_failing : (d at : ℕ) (t : List ℕ) → s < at → at + length t ≤ i.at
        → Own s (eat i c).at (ErrorAt kind.InvalidHexEscapeLiteral d at (past_failing d at t))
    own_failing d at t g h =
        let p = past_within d at t in (omega (arith, p.0), PointsAt.failing refl g p.0 (omega (arith, p.1)))

    on : WalkSteps true i c (knows_of (says s i)) (knows_of (says s (eat i c))) (Own s i.at)
    on = record {
      comment = tt;
      splice = λ _ _. tt;
      datum = λ _ _. tt;
      bracket = λ _ _ _. tt;
      unexpected = tt;
      opens_nest_holds = λ _ _. tt;
      nest = λ _ _ _ _. tt;
      carries = silent c (says s i) (says s (eat i c));
      ends = λ _ _ _. tt;
      escapes = λ _ _ e. let z : width c ≡ 1 = ap width e ∙ backslash_width in (later, omega arith);
      solid = λ _ _. (omega (arith, wide c), PointsAt.stopped refl refl (omega (arith, wide c)) (omega (arith, width_le c)));
      invalid = λ _ from h.
          (omega (arith, wide c), PointsAt.backslash refl h.0 h.1 (omega (arith, wide c)) (omega (arith, width_le c)));
      hex_x = λ _ from h _. (h.0, omega arith);
      hex_u = λ _ from h _. (h.0, omega arith);
      braced = λ _ from h _. (h.0, omega (arith, h.1));
      unbraced = λ _ from h. (h.0, omega (arith, h.1));
      digit = λ _ closer from m h _. (h.0, omega (arith, h.1, length-append i.bytes (utf8 c), width-utf8 c));
      unclosed = λ _ closer from m h. (omega arith, PointsAt.escape refl h.0 (omega arith) (omega arith));
      no_scalar = λ _ closer from m v h _. (omega arith, PointsAt.escape refl h.0 (omega arith) (omega arith));
      fails = λ _ closer from m d p h _ _ _ _.
          let t : List ℕ = drop p (drop m i.bytes) in
          let long : length t ≡ length i.bytes - m - p = omega (arith, length-drop p (drop m i.bytes), length-drop m i.bytes) in
          own_failing d (i.at - length t) t (omega arith) (omega arith);
    }

  pub read_own : (c : ℕ) (cs : List ℕ) → Own s (read_item true s c cs).item.at (read_item true s c cs).what
  read_own c cs =
      let i : SoFar = eat (so_far [] s) c in
      walk_read true (λ i. knows_of (says s i)) (λ i. Own s i.at) (λ i _. s ≤ i.at) (λ i _ _. over i) (λ i c _ l. (on i c l, omega arith)) s c cs
      (walk_start (says s i) c (token i.at)) (omega arith)
