-- The way of a scan: the characters that it ate, the phase after them, and what ended it there.
use Prim.Native.Nat.{ℕ}
use mathlib.Core.Path.{◌≡◌, refl, sym, ap, subst, ◌∙◌}
use mathlib.Core.Bool.{Bool}
use mathlib.Core.List.{List, [], ◌∷◌, ◌++◌, append_assoc, append-nil}
use native.Mathlib.Omega.{arith}
use Rattle.chars.specs.Encode.{utf8, width, bytes_of}
use Rattle.chars.proofs.Bytes.{bytes_append}
use Rattle.chars.proofs.Width.{wide}
use Rattle.items.specs.declared.Outcome.{Outcome}
use Rattle.items.specs.declared.Phase.{Phase}
use Rattle.items.specs.declared.Next.TheVariants.{Stop}
use Rattle.items.specs.Classes.{first_of}
use Rattle.items.specs.Machine.{step_of, finish_of, on_first, scan_of}
use Rattle.items.specs.Readers.{SoFar, so_far, eat, Read, got, read_item}
use Rattle.items.specs.Items.{byte_count}
use Rattle.items.proofs.Cases.{by_next}
use Rattle.items.proofs.Same.{item_same}
use Rattle.items_r7rs.proofs.Reading.{eats, whole, eats-whole}
use Rattle.items_writing.proofs.OutcomeTells.{Known, Holds, Goes}
use Rattle.items_writing.proofs.OutcomeSteps.{goes_on, finish_known, first_holds}

-- what ended an item j in the phase q: the end of the text, or the first character of the rest
abbrev pub Ended : Bool → Phase → SoFar → List ℕ → Outcome → Type 0
Ended report q j [] o = o ≡ finish_of q j.bytes
Ended report q j (x ∷ rest) o = step_of report q j x ≡ Stop o

pub record Trace (report : Bool) (p : Phase) (i : SoFar) (cs : List ℕ) (r : Read) : Type 0 where
  pub ate : List ℕ
  pub phase : Phase
  pub splits : cs ≡ ate ++ r.rest
  pub item : r.item ≡ eats i ate
  pub on : (v : List ℕ) → scan_of report p i (ate ++ v) ≡ scan_of report phase (eats i ate) v
  pub ended : Ended report phase (eats i ate) r.rest r.what
  pub told : (v : List ℕ) → i.bytes ≡ bytes_of v → Holds v p → Known (v ++ ate) r.what

told_here : (p : Phase) (i : SoFar) (v : List ℕ) → i.bytes ≡ bytes_of v → Holds v p → Known (v ++ []) (finish_of p i.bytes)
told_here p i v e h = rw (append-nil v, e) (finish_known v p h)

told_on : (i : SoFar) (c : ℕ) (v : List ℕ) → i.bytes ≡ bytes_of v → (eat i c).bytes ≡ bytes_of (v ++ (c ∷ []))
unfolding bytes_of
told_on i c v e = rw (bytes_append v (c ∷ []), e, append-nil (utf8 c))

pub trace : (report : Bool) (p : Phase) (i : SoFar) (cs : List ℕ) → Trace report p i cs (scan_of report p i cs)
unfolding scan_of
trace report p i [] = record { ate = []; phase = p; splits = refl; item = refl; on = λ v. refl; ended = refl; told = λ v e h. told_here p i v e h }
trace report p i (c ∷ cs) = by_next (step_of report p i c)
    (λ q e. let l : Trace report q (eat i c) cs (scan_of report q (eat i c) cs) = trace report q (eat i c) cs in
    rw (e, scan_of) (record {
      ate = c ∷ l.ate;
      phase = l.phase;
      splits = ap (λ (x : List ℕ). c ∷ x) l.splits;
      item = l.item;
      on = λ v. rw (e, scan_of) (l.on v);
      ended = l.ended;
      told = λ v f h. subst (λ (x : List ℕ). Known x (scan_of report q (eat i c) cs).what) (append_assoc v (c ∷ []) l.ate)
          (l.told (v ++ (c ∷ [])) (told_on i c v f) (let g : Goes v c (step_of report p i c) = goes_on v c i f report p h in rw e at g));
    }))
    (λ o e. rw (e, scan_of)
    (record {
      ate = [];
      phase = p;
      splits = refl;
      item = refl;
      on = λ v. refl;
      ended = e;
      told = λ v f h. rw (append-nil v)
          (let g : Goes v c (step_of report p i c) = goes_on v c i f report p h in rw e at g);
    }))

-- the same of an item that starts at a place with c
pub record Traced (report : Bool) (at c : ℕ) (cs : List ℕ) (r : Read) : Type 0 where
  pub ate : List ℕ
  pub phase : Phase
  pub splits : cs ≡ ate ++ r.rest
  pub item : r.item ≡ whole at (c ∷ ate)
  pub on : (v : List ℕ) → read_item report at c (ate ++ v) ≡ scan_of report phase (whole at (c ∷ ate)) v
  pub ended : Ended report phase (whole at (c ∷ ate)) r.rest r.what
  pub told : Known (c ∷ ate) r.what

first_bytes : (c : ℕ) → utf8 c ≡ bytes_of (c ∷ [])
unfolding bytes_of
first_bytes c = sym (append-nil (utf8 c))

pub traced : (report : Bool) (at c : ℕ) (cs : List ℕ) → Traced report at c cs (read_item report at c cs)
traced report at c cs =
    let p : Phase = on_first (first_of c) in
    let i : SoFar = eat (so_far [] at) c in
    let l : Trace report p i cs (read_item report at c cs) = rw (item_same report at c cs) at (trace report p i cs) in
    let e : eats i l.ate ≡ whole at (c ∷ l.ate) = eats-whole at (c ∷ l.ate) in
    record {
      ate = l.ate;
      phase = l.phase;
      splits = l.splits;
      item = l.item ∙ e;
      on = λ v. sym (item_same report at c (l.ate ++ v)) ∙ (l.on v ∙ ap (λ (j : SoFar). scan_of report l.phase j v) e);
      ended = subst (λ (j : SoFar). Ended report l.phase j (read_item report at c cs).rest (read_item report at c cs).what) e l.ended;
      told = l.told (c ∷ []) (first_bytes c) (first_holds c);
    }

-- what ended an item with a character of the rest ends it with any rest that starts so
pub stops_at : (report : Bool) (q : Phase) (j : SoFar) (x : ℕ) (v : List ℕ) (o : Outcome) → step_of report q j x ≡ Stop o → scan_of report q j (x ∷ v) ≡ got o j (x ∷ v)
unfolding scan_of
stops_at report q j x v o e = rw (e, scan_of)

pub stops_here : (report : Bool) (q : Phase) (j : SoFar) → scan_of report q j [] ≡ got (finish_of q j.bytes) j []
unfolding scan_of
stops_here report q j = refl

-- two ways to cut a text are one where the first parts have as many bytes
pub same_cut : (t u x y : List ℕ) → t ++ x ≡ u ++ y → byte_count t ≡ byte_count u → (t ≡ u) × (x ≡ y)
same_cut [] [] x y e h = (refl, e)
same_cut [] (d ∷ u) x y e h = absurd (omega (arith, wide d))
same_cut (c ∷ t) [] x y e h = absurd (omega (arith, wide c))
same_cut (c ∷ t) (d ∷ u) x y e h =
    let f : c ≡ d = cc in
    let g : t ++ x ≡ u ++ y = cc in
    let w : width c ≡ width d = rw f in
    let r = same_cut t u x y g (omega arith) in
    (cc r.0, r.1)
