-- A character of ASCII by itself, as `#\a`: the machine's three turns after the sign are taken one by one, and one letter is no name.
use Prim.Native.Nat.{ℕ, ◌+◌, ◌-◌, ◌<◌}
use mathlib.Core.Path.{◌≡◌, refl, sym, ap, ◌∙◌, subst}
use mathlib.Core.Bool.{Bool}
use mathlib.Core.List.{List, [], ◌∷◌}
use lib.Dec.{eqb}
use lib.ListN.{length, get_or, take, drop}
use native.Mathlib.Omega.{arith}
use Rattle.laws.specs.Quoted.{code}
use Rattle.laws.specs.Texts.{same, begins}
use Rattle.laws.proofs.Places.{here}
use Rattle.chars.specs.Encode.{bytes_of, utf8}
use Rattle.chars.proofs.Chars.{CharAt}
use Rattle.items.specs.Kinds as kind
use Rattle.items.specs.Classes.{after_hash, in_hash, stops_hash}
use Rattle.items.specs.Machine.{step_of}
use Rattle.items.specs.Readers.{so_far, hash_kind, bool_kind, quote_kind, form_kind}
use Rattle.items.proofs.LoneCharacters.{lone_is}
use Rattle.items.specs.declared.HashKind.TheVariants.{Decided}
use Rattle.items.specs.declared.Next.TheVariants.{Eat}
use Rattle.items.specs.declared.Outcome.TheVariants.{Character}
use Rattle.items.specs.declared.Phase.TheVariants as ph
use Rattle.steps.specs.Scan.{part, answer}
use Rattle.steps.proofs.Turn.{turn_eat, turn_stop}
use Rattle.meaning.specs.Meant.{means}
use Rattle.meaning.specs.declared.Text.TheVariants.{Nowhere}
use Rattle.items_telling.specs.declared.Quick.TheVariants.{Item}
use Rattle.lexer.specs.Glance.{Marks, GlanceAt}
use Rattle.lexer.proofs.Sharps.{ascii_at, hash_ends, sign_begins}
use Rattle.lexer.proofs.Tells.{and_false}

-- ---- the bytes of `#\` and a character

abbrev lone : ℕ → List ℕ
lone c = code "#" ∷ code "\\" ∷ c ∷ []

lone_kind : (c : ℕ) → hash_kind (lone c) ≡ Decided Character
unfolding hash_kind bool_kind quote_kind form_kind same begins bytes_of utf8
lone_kind c = refl

mark_opens : (report : Bool) (raw : List ℕ) (n : ℕ) → step_of report ph.AfterHash (so_far raw n) (code "\\") ≡ Eat ph.HashEscape
unfolding after_hash in_hash
mark_opens report raw n = refl

-- ---- where they stand, before a byte that ends them

module _ (s : List ℕ) (at : ℕ) (M : Marks s at) (c : ℕ) (stands : get_or s (at + 2) 0 ≡ c) (small : c < 0x80) (more : at + 3 < length s)
    (d : ℕ) (ends : get_or s (at + 3) 0 ≡ d) (stop : (d < 0x80) × (in_hash d ≡ stops_hash)) where
  lone-part : part s at (at + 3) ≡ lone c
  lone-part =
      let n : at + 3 - at ≡ 3 = omega arith in
      let two : at + 1 + 1 ≡ at + 2 = omega arith in
      let third : drop (at + 1 + 1) s ≡ get_or s (at + 2) 0 ∷ drop (at + 2 + 1) s = ap (λ (i : ℕ). drop i s) two ∙ here s (at + 2) (omega arith) in
      rw n (
      ap (take 3) (here s at M.sign.some ∙ ap (λ (l : List ℕ). get_or s at 0 ∷ l) (here s (at + 1) M.more
      ∙ ap (λ (l : List ℕ). get_or s (at + 1) 0 ∷ l) third))
      ∙ ap (λ (x : ℕ). x ∷ get_or s (at + 1) 0 ∷ get_or s (at + 2) 0 ∷ []) M.sign.sharp
      ∙ ap (λ (x : ℕ). code "#" ∷ x ∷ get_or s (at + 2) 0 ∷ []) M.mark
      ∙ ap (λ (x : ℕ). code "#" ∷ code "\\" ∷ x ∷ []) stands)

  lone_scan : (report : Bool) → record { what = Character; end = at + 3 } ≡ answer s report at ph.AfterHash (at + 1)
  lone_scan report =
      let two : at + 1 + 1 ≡ at + 2 = omega arith in
      let three : at + 2 + 1 ≡ at + 3 = omega arith in
      let k : CharAt s (at + 1) (code "\\") (at + 2) = subst (CharAt s (at + 1) (code "\\")) two (ascii_at s (at + 1) (code "\\") M.more M.mark (omega arith)) in
      let l : CharAt s (at + 2) c (at + 3) = subst (CharAt s (at + 2) c) three (ascii_at s (at + 2) c (omega arith) stands small) in
      sym (turn_eat s report at ph.AfterHash (at + 1) (code "\\") (at + 2) k ph.HashEscape (omega arith) (mark_opens report (part s at (at + 1)) (at + 1))
      ∙ turn_eat s report at ph.HashEscape (at + 2) c (at + 3) l ph.InHash (omega arith) refl
      ∙ turn_stop s report at ph.InHash (at + 3) d (at + 3 + 1) (ascii_at s (at + 3) d more ends stop.0) Character
      (hash_ends report (part s at (at + 3)) (at + 3) d Character (ap hash_kind lone-part ∙ lone_kind c) stop.1))

  pub lone_told : (report skip : Bool) → GlanceAt s report skip at (Item (means kind.CharacterLiteral c Nowhere) at (at + 3))
  lone_told report skip = (
    refl,
    omega arith,
    record {
      what = Character;
      phase = ph.AfterHash;
      next = at + 1;
      begins = sign_begins s at M.sign;
      scan = lone_scan report;
      quiet = λ last end. rw lone-part (rw (lone_is report c small));
      alone = record { means = λ r. rw lone-part (rw (lone_is r c small)); undecoded = tt };
      kept = and_false skip (eqb kind.CharacterLiteral kind.Comment) refl;
    },
    λ depth. refl,
  )
