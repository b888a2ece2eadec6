-- What a number sign begins, as far as the next bytes tell: the opening of a vector, a boolean of one letter before a byte that ends it, and a
-- nested comment. The machine's turns after the sign are taken one by one.
use Rattle.std.proofs.Common.{Some, None}
use Rattle.laws.specs.Quoted.{code}
use Rattle.laws.specs.Texts.{same, begins}
use Rattle.laws.proofs.Places.{here}
use Rattle.chars.specs.Blank.{is_blank}
use Rattle.chars.specs.Encode.{bytes_of, utf8}
use Rattle.chars.specs.Utf8.{first_bad}
use Rattle.chars.proofs.Cuts.{good_past}
use Rattle.chars.proofs.Chars.{CharAt, char_at}
use Rattle.items.specs.Kinds as kind
use Rattle.items.specs.Classes.{starts_run, first_of, after_hash, ends_hash, in_hash, stops_hash}
use Rattle.items.specs.Machine.{step_of}
use Rattle.items.specs.Readers.{so_far, comment, hash_kind, bool_kind, quote_kind, form_kind}
use Rattle.items.specs.declared.HashKind.TheVariants.{Decided, Bracket}
use Rattle.items.specs.declared.Next.TheVariants.{Eat, Stop}
use Rattle.items.specs.declared.Outcome.{Outcome}
use Rattle.items.specs.declared.Outcome.TheVariants.{Token}
use Rattle.items.specs.declared.Phase.TheVariants as ph
use Rattle.steps.specs.Scan.{part, answer}
use Rattle.steps.proofs.Kept.{done_scan, ascii_found}
use Rattle.steps.proofs.Turn.{turn_eat, turn_stop}
use Rattle.meaning.specs.Meant.{means}
use Rattle.meaning.specs.declared.Means.{Means}
use Rattle.meaning.specs.declared.Text.TheVariants.{Nowhere}
use Rattle.lexer.specs.Glance.{Begins, Sharp, Spells, Nests, Glanced, GlanceAt, SkimAt}
use Rattle.items_telling.specs.declared.Quick.{Quick}
use Rattle.items_telling.specs.declared.Quick.TheVariants as quick
use Rattle.lexer.proofs.Glances as glances
use Rattle.lexer.proofs.Tells.{and_false, comment-told}
use Rattle.steps.specs.Ended.{EndsAs}
use Prim.Native.Nat.{ℕ, ◌+◌, ◌-◌, ◌<◌}
use mathlib.Core.Path.{◌≡◌, refl, sym, ap, ◌∙◌, subst}
use mathlib.Core.Bool.{Bool, false}
use mathlib.Core.List.{List, [], ◌∷◌}
use lib.Dec.{eqb}
use lib.ListN.{length, get_or, take, drop}
use native.Mathlib.Omega.{arith}

pub spells_true : (s : List ℕ) (at : ℕ) → Sharp s at → at + 1 < length s → get_or s (at + 1) 0 ≡ code "t" → Spells s at 1
unfolding after_hash in_hash ends_hash is_blank hash_kind bool_kind same bytes_of utf8
spells_true s at S m e = record { sign = S; more = m; letter = code "t"; stands = e; small = omega arith; stays = λ raw. refl; boolean = refl }

pub spells_false : (s : List ℕ) (at : ℕ) → Sharp s at → at + 1 < length s → get_or s (at + 1) 0 ≡ code "f" → Spells s at 0
unfolding after_hash in_hash ends_hash is_blank hash_kind bool_kind same bytes_of utf8
spells_false s at S m e = record { sign = S; more = m; letter = code "f"; stands = e; small = omega arith; stays = λ raw. refl; boolean = refl }

-- a character of ASCII stands at a place
pub ascii_at : (s : List ℕ) (at c : ℕ) → at < length s → get_or s at 0 ≡ c → c < 0x80 → CharAt s at c (at + 1)
ascii_at s at c h e k = subst (λ (x : ℕ). CharAt s at x (at + 1)) e (char_at s at (get_or s at 0) (at + 1) (ascii_found s at h (omega arith)) (omega arith))

-- the kind of the bare sign
sign_kind : hash_kind (code "#" ∷ []) ≡ Bracket kind.Vector
unfolding hash_kind bool_kind quote_kind form_kind same begins bytes_of utf8
sign_kind = refl

vector_opens : (report : Bool) (raw : List ℕ) (n : ℕ) → raw ≡ code "#" ∷ [] → step_of report ph.AfterHash (so_far raw n) (code "(") ≡ Eat (ph.Done (Token kind.OpenParen kind.Vector))
unfolding after_hash in_hash ends_hash
vector_opens report raw n e = rw (e, sign_kind)

pub hash_ends : (report : Bool) (raw : List ℕ) (n c : ℕ) (o : Outcome) → hash_kind raw ≡ Decided o → in_hash c ≡ stops_hash → step_of report ph.InHash (so_far raw n) c ≡ Stop o
hash_ends report raw n c o e k = rw (k, e)

module _ (s : List ℕ) (at : ℕ) (S : Sharp s at) where
  pub sign_begins : Begins s at (at + 1) ph.AfterHash
  unfolding first_of starts_run is_blank
  sign_begins = glances.begins s at (code "#") ph.AfterHash S.some S.sharp (omega arith) refl refl

  sign_part : part s at (at + 1) ≡ code "#" ∷ []
  sign_part =
      let n : at + 1 - at ≡ 1 = omega arith in
      rw n (ap (take 1) (here s at S.some) ∙ ap (λ (c : ℕ). c ∷ []) S.sharp)

  letter_part : (c : ℕ) → at + 1 < length s → get_or s (at + 1) 0 ≡ c → part s at (at + 2) ≡ code "#" ∷ c ∷ []
  letter_part c m e =
      let n : at + 2 - at ≡ 2 = omega arith in
      rw n (ap (take 2) (here s at S.some ∙ ap (λ (l : List ℕ). get_or s at 0 ∷ l) (here s (at + 1) m)) ∙ ap (λ (x : ℕ). x ∷ get_or s (at + 1) 0 ∷ []) S.sharp ∙ ap (λ (x : ℕ). code "#" ∷ x ∷ []) e)

  -- an item without text of two bytes
  two_told : (report skip : Bool) (k d : ℕ) → record { what = Token k d; end = at + 2 } ≡ answer s report at ph.AfterHash (at + 1)
      → eqb k kind.Comment ≡ false → Glanced s report skip at (at + 2) (means k d Nowhere)
  two_told report skip k d h other = record {
    what = Token k d;
    phase = ph.AfterHash;
    next = at + 1;
    begins = sign_begins;
    scan = h;
    quiet = λ last end. refl;
    alone = record { means = λ r. refl; undecoded = tt };
    kept = and_false skip (eqb k kind.Comment) other;
  }

  pub vector_told : (report skip : Bool) → at + 1 < length s → get_or s (at + 1) 0 ≡ code "("
      → GlanceAt s report skip at (quick.Bracket (means kind.OpenParen kind.Vector Nowhere) at (at + 1 + 1))
  vector_told report skip m e =
      let n : at + 1 + 1 ≡ at + 2 = omega arith in
      let o = Token kind.OpenParen kind.Vector in
      let k : CharAt s (at + 1) (code "(") (at + 2) = subst (CharAt s (at + 1) (code "(")) n (ascii_at s (at + 1) (code "(") m e (omega arith)) in
      rw n (
        refl,
        omega arith,
        two_told report skip kind.OpenParen kind.Vector
            (sym (turn_eat s report at ph.AfterHash (at + 1) (code "(") (at + 2) k
            (ph.Done o) (omega arith) (vector_opens report (part s at (at + 1)) (at + 1) sign_part) ∙ sym (done_scan report o _ _))) refl,
      )

pub boolean_told : (s : List ℕ) (at v : ℕ) → Spells s at v → (report skip : Bool) → at + 2 < length s → (c : ℕ) → get_or s (at + 2) 0 ≡ c → (c < 0x80) × (in_hash c ≡ stops_hash)
    → GlanceAt s report skip at (quick.Item (means kind.BooleanLiteral v Nowhere) at (at + 2))
boolean_told s at v B report skip m c e stop =
    let n : at + 1 + 1 ≡ at + 2 = omega arith in
    let o = Token kind.BooleanLiteral v in
    let k : CharAt s (at + 1) B.letter (at + 2) = subst (CharAt s (at + 1) B.letter) n (ascii_at s (at + 1) B.letter B.more B.stands B.small) in
    let l = ascii_at s (at + 2) c m e stop.0 in (
      refl,
      omega arith,
      two_told s at B.sign report skip kind.BooleanLiteral v
          (sym (turn_eat s report at ph.AfterHash (at + 1) B.letter (at + 2) k ph.InHash (omega arith) (B.stays (part s at (at + 1)))
          ∙ turn_stop s report at ph.InHash (at + 2) c (at + 2 + 1) l o (hash_ends report (part s at (at + 2))
          (at + 2) c o (ap hash_kind (letter_part s at B.sign B.letter B.more B.stands) ∙ B.boolean) stop.1))) refl,
      λ depth. refl,
    )

-- ---- a nested comment

nest_opens : (report : Bool) (raw : List ℕ) (n : ℕ) → step_of report ph.AfterHash (so_far raw n) (code "|") ≡ Eat (ph.Nest 1)
unfolding after_hash
nest_opens report raw n = refl

module _ (s : List ℕ) (at : ℕ) (N : Nests s at) where
  pub nested_good : first_bad s ≡ None → first_bad (drop (at + 2) s) ≡ None
  nested_good g =
      let n : at + 1 + 1 ≡ at + 2 = omega arith in
      subst (λ (i : ℕ). first_bad (drop i s) ≡ None) n (good_past s (at + 1) g N.more (omega (arith, N.bar)))

  -- where comments are kept
  pub nested_told_lem : (report skip : Bool) (e : ℕ) → skip ≡ false → EndsAs s report (ph.Nest 1) comment (at + 2) (Some e)
      → GlanceAt s report skip at (quick.Item (means kind.Comment 0 Nowhere) at e)
  nested_told_lem report skip e kept h =
      let n : at + 1 + 1 ≡ at + 2 = omega arith in
      let k : CharAt s (at + 1) (code "|") (at + 2) = subst (CharAt s (at + 1) (code "|")) n (ascii_at s (at + 1) (code "|") N.more N.bar (omega arith)) in
      comment-told s report skip at (at + 1) e ph.AfterHash kept (sign_begins s at N.sign)
      (sym (turn_eat s report at ph.AfterHash (at + 1) (code "|") (at + 2) k (ph.Nest 1) (omega arith) (nest_opens report (part s at (at + 1)) (at + 1)) ∙ h at (omega arith)))

-- ---- where only its end is asked for

pub hash_skims : (s : List ℕ) (report skip : Bool) (at : ℕ) (q : Quick) → GlanceAt s report skip at q → (m : Means) (a e : ℕ) → q ≡ quick.Item m a e → SkimAt s report skip at (Some e)
hash_skims s report skip at q g m a e h = let t = subst (GlanceAt s report skip at) h g in (m, t.2)

pub bracket_skims : (s : List ℕ) (report skip : Bool) (at : ℕ) (q : Quick) → GlanceAt s report skip at q → (m : Means) (a e : ℕ) → q ≡ quick.Bracket m a e → SkimAt s report skip at (Some e)
bracket_skims s report skip at q g m a e h = let t = subst (GlanceAt s report skip at) h g in (m, t.2)
