-- What one look at a first byte, and one at where its run ends, tell of the item there.
use Rattle.std.proofs.Common.{None, Option, Some}
use Rattle.chars.specs.Utf8.{chars}
use Rattle.chars.specs.Blank.{is_blank}
use Rattle.items.specs.Kinds as kind
use Rattle.items.specs.Classes.{first_of}
use Rattle.items.specs.Machine.{on_first}
use Rattle.items.specs.Readers.{SoFar, so_far, comment}
use Rattle.items.specs.Items.{Place, range_after}
use Rattle.items.specs.Whole.{limit}
use Rattle.items.specs.declared.Outcome.{Outcome}
use Rattle.items.specs.declared.Outcome.TheVariants.{Token, Word}
use Rattle.items.specs.declared.Phase.{Phase}
use Rattle.items.specs.declared.Phase.TheVariants as ph
use Rattle.steps.specs.Scan.{part, answer}
use Rattle.steps.specs.Ended.{EndsAs}
use Rattle.steps.proofs.Kept.{done_scan}
use Rattle.meaning.specs.Meant.{means}
use Rattle.meaning.specs.declared.Text.TheVariants.{Nowhere}
use Rattle.items_telling.specs.Tells.{Tells}
use Rattle.lexer.specs.Glance.{Begins, Worded, WordedTo, Glanced, GlanceAt}
use Rattle.items_telling.specs.declared.Quick.{Quick}
use Rattle.items_telling.specs.declared.Quick.TheVariants.{Item, Bracket, Other}
use Rattle.lexer.proofs.Scans.{inside, scan_fits, end_inside}
use Rattle.lexer.proofs.Glances.{begins}
use Prim.Native.Nat.{ℕ, ◌+◌, ◌-◌, ◌≤◌, ◌<◌}
use mathlib.Core.Path.{◌≡◌, refl, sym, ap, ◌∙◌, subst}
use mathlib.Core.Bool.{Bool, true, false, ◌&&◌}
use mathlib.Core.List.{List}
use lib.Dec.{eqb}
use lib.ListN.{length, get_or, drop, length-take, length-drop}
use lib.Seq.{get_or-take, get_or-drop}
use native.Mathlib.Omega.{arith}

pub and_false : (b x : Bool) → x ≡ false → (b && x) ≡ false
and_false true x e = e
and_false false x e = refl

-- a byte of a part, and its first
pub part_byte : (s : List ℕ) (at e i : ℕ) → at + i < e → get_or (part s at e) i 0 ≡ get_or s (at + i) 0
part_byte s at e i h = let n : i < e - at = omega arith in get_or-take (e - at) (drop at s) i 0 n ∙ get_or-drop at s i 0

pub first_byte : (s : List ℕ) (at e : ℕ) → at < e → get_or (part s at e) 0 0 ≡ get_or s at 0
first_byte s at e h = let z : at + 0 ≡ at = omega arith in part_byte s at e 0 (omega arith) ∙ ap (λ (i : ℕ). get_or s i 0) z

-- ---- a character that is an item of its own

pub single_told : (s : List ℕ) (report skip : Bool) (at c k d : ℕ) → at < length s → get_or s at 0 ≡ c → c < 0x80 → is_blank c ≡ false
    → on_first (first_of c) ≡ ph.Done (Token k d) → eqb k kind.Comment ≡ false → Glanced s report skip at (at + 1) (means k d Nowhere)
single_told s report skip at c k d h e l b f other = record {
  what = Token k d;
  phase = ph.Done (Token k d);
  next = at + 1;
  begins = begins s at c (ph.Done (Token k d)) h e l b f;
  scan = done_scan report (Token k d) (so_far (part s at (at + 1)) (at + 1)) (chars (drop (at + 1) s));
  quiet = λ last end. refl;
  alone = record { means = λ r. refl; undecoded = tt };
  kept = and_false skip (eqb k kind.Comment) other;
}

-- ---- an item that ends where its run does

-- the character that an item begins with lies in the source
pub begins_inside : (s : List ℕ) (at next : ℕ) (p : Phase) → Begins s at next p → next ≤ length s
begins_inside s at next p B = (inside s false at B.c next B.first).1

pub ends_here : (s : List ℕ) (report : Bool) (at next : ℕ) (p : Phase) (o : Outcome) (e : ℕ) → Begins s at next p → EndsAs s report p o next (Some e)
    → record { what = o; end = e } ≡ answer s report at p next
ends_here s report at next p o e B h = sym (h at (omega (arith, B.first.on)))

pub record Spans (s : List ℕ) (at e : ℕ) : Type 0 where
  pub some : at < e
  pub inside : e ≤ length s
  pub long : at + length (part s at e) ≡ e

module _ (s : List ℕ) (report : Bool) (at next e : ℕ) (o : Outcome) (p : Phase) (B : Begins s at next p)
    (h : record { what = o; end = e } ≡ answer s report at p next) where
  first_scan : record { what = o; end = e } ≡ answer s report at (on_first (first_of B.c)) next
  first_scan = h ∙ ap (λ (q : Phase). answer s report at q next) (sym B.stands)

  pub spans : length s ≤ limit → Spans s at e
  spans short =
      let i = end_inside s report at B.c next B.first (record { what = o; end = e }) first_scan in
      let f = scan_fits s report at B.c next B.first (record { what = o; end = e }) first_scan 0 (omega arith) (omega arith) in
      let l : length (part s at e) ≡ e - at = length-take (e - at) (drop at s) ∙ omega (arith, length-drop at s) in
      record { some = omega (arith, f.some); inside = i.1; long = omega arith }

  pub ended_told : length s ≤ limit → ((last : Place) (i : SoFar) → range_after report last at o i ≡ last) → (q : Quick) → Tells o at (part s at e) q
      → (skip : Bool) → GlanceAt s report skip at q
  ended_told short quiet Other t skip = tt
  ended_told short quiet (Bracket m a f) t skip = absurd t
  ended_told short quiet (Item m a f) t skip =
      let there : f ≡ e = t.1 ∙ (spans short).long in (
        t.0,
        t.3,
        subst (λ (x : ℕ). Glanced s report skip at x m) (sym there) (record {
          what = o;
          phase = p;
          next = next;
          begins = B;
          scan = h;
          quiet = λ last end. quiet last _;
          alone = t.4;
          kept = and_false skip (eqb m.kind kind.Comment) t.2;
        }),
        t.5,
      )

-- a comment, where comments are kept
pub comment-told : (s : List ℕ) (report skip : Bool) (at next e : ℕ) (p : Phase) → skip ≡ false → Begins s at next p
    → record { what = comment; end = e } ≡ answer s report at p next → GlanceAt s report skip at (Item (means kind.Comment 0 Nowhere) at e)
comment-told s report skip at next e p k B h = (
  refl,
  omega arith,
  record {
    what = comment;
    phase = p;
    next = next;
    begins = B;
    scan = h;
    quiet = λ last end. refl;
    alone = record { means = λ r. refl; undecoded = tt };
    kept = rw k;
  },
  λ depth. refl,
)

-- ---- a word whose first character ends at the place `next`

pub worded_to : (s : List ℕ) (at next : ℕ) → Worded s at next → (r : Option ℕ) → ((report : Bool) → EndsAs s report ph.InWord Word next r) → WordedTo s at r
worded_to s at next w (Some e) h = (next, (w, h))
worded_to s at next w None h = tt
