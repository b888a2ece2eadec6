-- The rows that are known here.
use Prim.Native.Nat.{ℕ, ◌+◌, ◌≤◌, ◌<◌, ◌^◌}
use mathlib.Core.Path.{◌≡◌, sym, ◌∙◌}
use lib.Dec.{eqb}
use native.Mathlib.Omega.{arith}
use borrow.Author.Tests.{eq-eqb, le-leb, eqb-true, eqb-false}
use Rattle.laws.proofs.Choice.{by_bool}
use Rattle.pieces_lent.specs.Coding.{quotes_of, quotes_code, stage_of}
use Rattle.pieces_lent.specs.declared.Words.{Words}
use Rattle.pieces_quick.specs.Words.{Known, Plain, Unheld, Stands}

-- no item is held between items, at the start of the text and in a first line
module _ (w : Words) (h : Unheld w) where
  abbrev Row : Type 0
  Row = Known w.stage w.start w.which w.detail w.at w.len

  unheld_stands : Row → Stands w
  unheld_stands k = record { small = omega (arith, h.none); deep = omega (arith, h.none, h.deep); known = k }

  pub idle_stands : w.stage ≡ 3 → Stands w
  unfolding stage_of
  idle_stands k =
      unheld_stands (record {
        held = λ g. absurd (omega (arith, k));
        rows = rw (k, h.start, h.which, h.detail);
        narrow = omega (arith, h.which);
        slim = omega (arith, h.detail);
        calm = rw k;
        bounds = λ m e f. rw k;
      })

  pub line_stands : w.stage ≡ 2 → Stands w
  unfolding stage_of
  line_stands k =
      unheld_stands (record {
        held = λ g. absurd (omega (arith, k));
        rows = rw (k, h.start, h.which, h.detail);
        narrow = omega (arith, h.which);
        slim = omega (arith, h.detail);
        calm = rw k;
        bounds = λ m e f. rw k;
      })

  pub opening_stands : w.stage ≡ 0 → w.at ≡ 0 → Stands w
  unfolding stage_of
  opening_stands k first =
      unheld_stands (record {
        held = λ g. absurd (omega (arith, k));
        rows = rw (k, h.start, h.which, h.detail);
        narrow = omega (arith, h.which);
        slim = omega (arith, h.detail);
        calm = rw k;
        bounds = λ m e f. rw (k, e, first);
      })

module _ (stage start which detail at len : ℕ) where
  module _ (held : start + len ≡ at) (some : 1 ≤ len) where
    pub token_known : stage ≡ 31 → which < 2 ^ 32 → detail < 2 ^ 32 → Known stage start which detail at len
    unfolding stage_of
    token_known k w d = record {
      held = λ h. (held, some);
      rows = rw k;
      narrow = w;
      slim = d;
      calm = rw k;
      bounds = λ m e f. rw (k, e, f, eq-eqb (start + len) at held, le-leb 1 len some);
    }

    pub plain_known : Plain stage → which ≡ 0 → detail ≡ 0 → Known stage start which detail at len
    plain_known p w d = record {
      held = λ h. (held, some);
      rows = rw (w, d) (p.rows start);
      narrow = omega (arith, w);
      slim = omega (arith, d);
      calm = rw (w, d) (p.calm start);
      bounds = λ m e f. rw (w, d) (p.bounds start len m (held ∙ sym e) f some);
    }

    module _ (w : which ≤ 1) (d : detail ≡ 0) where
      -- either kind of quotes has its row
      code : quotes_code (quotes_of which) ≡ which
      code = by_bool (eqb which 0)
          (λ e. rw e (sym (eqb-true which 0 e)))
          (λ e. rw e (omega (arith, eqb-false which 0 e)))

      pub quoted_known : stage ≡ 24 → Known stage start which detail at len
      unfolding stage_of
      quoted_known k = record {
        held = λ h. (held, some);
        rows = rw (k, code, d);
        narrow = omega (arith, w);
        slim = omega (arith, d);
        calm = rw k;
        bounds = λ m e f. rw (k, e, f, eq-eqb (start + len) at held, le-leb 1 len some);
      }

      pub closed_known : stage ≡ 25 → 2 ≤ len → Known stage start which detail at len
      unfolding stage_of
      closed_known k two = record {
        held = λ h. (held, some);
        rows = rw (k, code, d);
        narrow = omega (arith, w);
        slim = omega (arith, d);
        calm = rw k;
        bounds = λ m e f. rw (k, e, f, eq-eqb (start + len) at held, le-leb 1 len some, le-leb 2 len two);
      }

-- the stages whose rows have neither quotes nor a detail
module _ (stage : ℕ) where
  pub word_plain : stage ≡ 14 → Plain stage
  unfolding stage_of
  word_plain k = record {
    rows = λ start. rw k;
    calm = λ start. rw k;
    bounds = λ start len m e f some. rw (k, f, eq-eqb (start + len) m.at e, le-leb 1 len some);
  }

  pub run_plain : stage ≡ 16 → Plain stage
  unfolding stage_of
  run_plain k = record {
    rows = λ start. rw k;
    calm = λ start. rw k;
    bounds = λ start len m e f some. rw (k, f, eq-eqb (start + len) m.at e, le-leb 1 len some);
  }

  pub line_plain : stage ≡ 7 → Plain stage
  unfolding stage_of
  line_plain k = record {
    rows = λ start. rw k;
    calm = λ start. rw k;
    bounds = λ start len m e f some. rw (k, f, eq-eqb (start + len) m.at e, le-leb 1 len some);
  }

  pub sign_plain : stage ≡ 9 → Plain stage
  unfolding stage_of
  sign_plain k = record {
    rows = λ start. rw k;
    calm = λ start. rw k;
    bounds = λ start len m e f some. rw (k, f, eq-eqb (start + len) m.at e, le-leb 1 len some);
  }

  pub hash_plain : stage ≡ 17 → Plain stage
  unfolding stage_of
  hash_plain k = record {
    rows = λ start. rw k;
    calm = λ start. rw k;
    bounds = λ start len m e f some. rw (k, f, eq-eqb (start + len) m.at e, le-leb 1 len some);
  }
