-- What an item turned out to be says `Fine` of it. In a phase that the quotes closed, their delimiter is the last byte; an escape's place is not past
-- the place read to; so an error's range lies in the text.
use Prim.Native.Nat.{ℕ, ◌+◌, ◌-◌, ◌^◌, ◌≤◌, ◌<◌}
use mathlib.Core.Path.{◌≡◌, refl}
use mathlib.Core.Bool.{Bool, true}
use mathlib.Core.List.{List, [], ◌∷◌, ◌++◌}
use lib.ListN.{length, drop, length-append, length-drop}
use lib.Seq.{get_or-append-add}
use native.Mathlib.Omega.{arith}
use borrow.Author.Tests.{eq-eqb}
use Rattle.laws.specs.Quoted.{code}
use Rattle.laws.proofs.Choice.{if_all}
use Rattle.chars.specs.Encode.{utf8, width}
use Rattle.chars.proofs.Width.{wide, width-utf8}
use Rattle.items.specs.declared.Quotes.{Quotes}
use Rattle.items.specs.declared.Quotes.TheVariants.{Double, Lines}
use Rattle.items.specs.declared.Outcome.TheVariants.{Token}
use Rattle.items.specs.Kinds as kind
use Rattle.items.specs.Classes.{delim_of}
use Rattle.items.specs.Items.{byte_count}
use Rattle.items.specs.Readers.{SoFar, so_far, eat, last_is, failing, read_item}
use Rattle.items.proofs.Every.{Every}
use Rattle.items.proofs.Failing.{past_within}
use Rattle.items.proofs.Fine.{Between, Fine}
use Rattle.items.proofs.Phases.{Says, knows_of}
use Rattle.items.proofs.Walk.{WalkEnds, WalkSteps, silent, decides, walk_start, walk_read}

-- what is known in a phase, with the item so far
abbrev says : (ℕ → Type 0) → ℕ → SoFar → Says
says D n i = record {
  nest = λ d. Unit {0};
  closed = λ k. Between (delim_of k) i.bytes;
  escape = λ from. from ≤ i.at;
  brace = λ from. from ≤ i.at;
  digits = λ closer from m. (from ≤ i.at) × D closer;
  done = Fine D n i.bytes;
}

delim_utf8 : (k : Quotes) → utf8 (delim_of k) ≡ delim_of k ∷ []
unfolding utf8
delim_utf8 Double = refl
delim_utf8 Lines = refl

last_is_lem : (b : ℕ) (l : List ℕ) → last_is b (l ++ (b ∷ [])) ≡ true
last_is_lem b l =
    let e : length (l ++ (b ∷ [])) - 1 ≡ length l + 0 = omega (arith, length-append l (b ∷ [])) in
    rw e (eq-eqb _ b (get_or-append-add l (b ∷ []) 0 0))

module _ (D : ℕ → Type 0) (small : (d : ℕ) → d < 2 ^ 32 → D d) (n : ℕ) where
  token : (raw : List ℕ) (k d : ℕ) → k < kind.first_error → d < 2 ^ 32 → Fine D n raw (Token k d)
  token raw k d h l = (h, small d l)

  over : (i : SoFar) → WalkEnds (knows_of (says D n i)) i.bytes (Fine D n i.bytes)
  over i =
      let zero : D 0 = small 0 (omega arith) in
      record {
        word = tt;
        run = tt;
        comment = (omega arith, zero);
        unquote = λ _. (omega arith, zero);
        here = λ _ e. e;
        string = λ h. h;
        lined = λ l e. (l, e);
        open_string = (omega arith, zero);
        open_lined = (omega arith, zero);
        open_nest = λ _ _. (omega arith, zero);
        decided = decides i.bytes (Fine D n i.bytes) (token i.bytes) tt (omega arith, zero) (λ _. tt);
        done = λ _ h. h;
      }

  module _ (i : SoFar) (c : ℕ) (some : 1 ≤ length i.bytes) (fits : length i.bytes ≤ i.at) (room : i.at + width c ≤ n) (detail : D c) where
    -- the delimiter of the quotes is the last byte
    closes_between : (q : Quotes) → c ≡ delim_of q → Between (delim_of q) (eat i c).bytes
    closes_between q e =
        let t : i.bytes ++ utf8 c ≡ i.bytes ++ (delim_of q ∷ []) = rw (e, delim_utf8 q) in
        rw t (omega (arith, length-append i.bytes (delim_of q ∷ [])), last_is_lem (delim_of q) i.bytes)

    -- an error that fails within the bytes t, which end at i's
    fine_failing : (report : Bool) (d from at : ℕ) (t : List ℕ) → from ≤ i.at → at + length t ≡ i.at → D d
        → Fine D n (eat i c).bytes (failing report kind.InvalidHexEscapeLiteral d from (eat i c).at at t)
    fine_failing report d from at t h g f =
        let p = past_within d at t in
        if_all (Fine D n (eat i c).bytes) report ((omega arith, f), (p.0, omega (arith, p.1))) ((omega arith, f), (omega arith, room))

    on : (report : Bool) → WalkSteps report i c (knows_of (says D n i)) (knows_of (says D n (eat i c))) (Fine D n i.bytes)
    on report = record {
      comment = (omega arith, small 0 (omega arith));
      splice = λ _ _. (omega arith, small 0 (omega arith));
      datum = λ _ _. (omega arith, small 0 (omega arith));
      bracket = λ d h _. (omega arith, small d h);
      unexpected = (omega arith, detail);
      opens_nest_holds = λ _ _. tt;
      nest = λ _ _ _ _. tt;
      carries = silent c (says D n i) (says D n (eat i c));
      ends = λ k _ e. closes_between k e;
      escapes = λ _ _ _. omega arith;
      solid = λ _ _. ((omega arith, small 0 (omega arith)), (omega arith, room));
      invalid = λ _ from h. ((omega arith, detail), (omega arith, room));
      hex_x = λ _ from h _. (omega arith, small (code ";") (omega arith));
      hex_u = λ _ from h _. omega arith;
      braced = λ _ from h _. (omega arith, small (code "}") (omega arith));
      unbraced = λ _ from h. (h, small (code ";") (omega arith));
      digit = λ _ closer from m h _. (omega (arith, h.0), h.1);
      unclosed = λ _ closer from m h. ((omega arith, h.1), (h.0, omega arith));
      no_scalar = λ _ closer from m v h l. ((omega arith, small v l), (omega (arith, h.0), room));
      fails = λ _ closer from m d p h _ _ l _.
          let t : List ℕ = drop p (drop m i.bytes) in
          fine_failing report d from (i.at - length t) t h.0
          (omega (arith, length-drop p (drop m i.bytes), length-drop m i.bytes)) (small d l);
    }

  -- the item that is read: a byte or more so far, room for the rest, and a detail in every character
  abbrev Left : SoFar → List ℕ → Type 0
  Left i cs = (1 ≤ length i.bytes) × (length i.bytes ≤ i.at) × (i.at + byte_count cs ≤ n) × Every D cs

  left_on : (i : SoFar) (c : ℕ) (cs : List ℕ) → Left i (c ∷ cs) → Left (eat i c) cs
  left_on i c cs h = (
    omega (arith, h.0, length-append i.bytes (utf8 c)),
    omega (arith, h.1, length-append i.bytes (utf8 c), width-utf8 c),
    omega (arith, h.2),
    h.3.1,
  )

  pub read_fine : (report : Bool) (at c : ℕ) (cs : List ℕ) → at + byte_count (c ∷ cs) ≤ n → Every D (c ∷ cs)
      → Fine D n (read_item report at c cs).item.bytes (read_item report at c cs).what
  read_fine report at c cs room ds =
      let i : SoFar = eat (so_far [] at) c in
      walk_read report (λ i. knows_of (says D n i)) (λ i. Fine D n i.bytes) Left (λ i _ _. over i)
      (λ i c cs h. (on i c h.0 h.1 (omega (arith, h.2)) h.3.0 report, left_on i c cs h)) at c cs
      (walk_start (says D n i) c (token i.bytes)) (omega (arith, width-utf8 c, wide c), omega (arith, width-utf8 c), omega arith, ds.1)
