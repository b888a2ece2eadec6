-- A turn of the loop that writes what one look told: its record is written, and nothing of the text memory. So any writing that stood at the
-- spot before goes on, and past the blanks after the item as well.
use Rattle.std.specs.Prelude.{if◌then◌else◌}
use Rattle.laws.specs.Lent.{written}
use Rattle.laws.proofs.Choice.{by_bool}
use Rattle.chars.specs.Utf8.{chars}
use Rattle.items.specs.Kinds as kind
use Rattle.items.specs.Items.{Item, range, depth_after, record_words, words_of}
use Rattle.items.specs.Whole.{limit}
use Rattle.items.specs.declared.Nine.{Nine}
use Rattle.meaning.specs.declared.Means.{Means}
use Rattle.meaning.specs.declared.Range.{Range}
use Rattle.meaning.specs.Places.{place_in, range_of}
use Rattle.meaning.specs.Records.{nine_for, TextFits}
use Rattle.lexer.specs.Reading.{moved, next_at, size_of, start_from, found_of, one_found}
use Rattle.lexer.specs.Inner.{deep_at}
use Rattle.lexer.specs.Writing.{Going, Writing, Roomy, Amid, Onward, told_to, ToldOn}
use Rattle.lexer.specs.Glance.{Glanced}
use Rattle.lexer.specs.declared.Spot.{Spot}
use Rattle.lexer.proofs.Turns.{turn_past}
use Rattle.lexer.proofs.Nexts.{next_same}
use Rattle.lexer.proofs.ReadingOn.{going_past}
use Rattle.lexer.proofs.Glances.{glance_inside, glance_fits, next_told, place_fine, bare_nine}
use Rattle.lexer.proofs.Writing.{recs-length, words_fit, room, has_moved, writing_bare, writing_past}
use Prim.Native.Nat.{ℕ, ◌+◌, ◌-◌, ◌^◌, ◌≤◌, ◌<◌}
use mathlib.Core.Path.{◌≡◌, refl, sym, ap, ◌∙◌, subst}
use mathlib.Core.Bool.{Bool, true, false}
use mathlib.Core.List.{List}
use lib.Dec.{eqb}
use lib.ListN.{length, take, drop}
use native.Mathlib.Omega.{arith}
use borrow.Author.Tests.{eq-eqb, ne_eqb, eqb-true, eqb-false}
use borrow.Rule.Slice.PartMut.{put_mid}

-- the spot of the writing loop
abbrev pub here : Spot → ℕ → Bool → Spot
here p at second = moved p at (place_in p.last) second

-- what one look told of the item at a place
abbrev pub ToldAt : List ℕ → Spot → ℕ → ℕ → ℕ → Means → Type 0
ToldAt s p at a e m = (a ≡ at) × (m.kind < kind.first_error) × Glanced s p.report p.skip at e m

-- from one place to another there are only blanks
abbrev pub Blanks : List ℕ → ℕ → ℕ → Type 0
Blanks s at next = (at ≤ next) × (start_from next (chars (drop next s)) ≡ start_from at (chars (drop at s)))

-- where some were told, no extent is halfway
pub none_halfway : (p : Spot) (w₀ at w : ℕ) → w₀ < w → here p at false ≡ told_to p at w₀ w
none_halfway p w₀ at w h = sym (ap (λ (x : Bool). here p at (if x then p.second else false)) (ne_eqb w w₀ (λ e. omega (arith, e))))

module _ (s : List ℕ) (p : Spot) (at : ℕ) (second : Bool) where
  -- the item past blanks is the item before them
  same_next : (next : ℕ) → Blanks s at next → next_at s (here p at second) ≡ next_at s (here p next second)
  same_next next b = next_same s (here p at second) (here p next second) refl (sym (turn_past s p at next (place_in p.last) second b.1))

  pub going_blanks : (start : Spot) (free : ℕ) (done : List Item) → Going s start (here p at second) free done → (next : ℕ) → Blanks s at next
      → Going s start (here p next second) free done
  going_blanks start free done g next b = going_past s start (here p at second) free done g (here p next second) (same_next next b) (omega (arith, b.0)) b.0

module _ (s : List ℕ) (start : Spot) (recs₀ text₀ : List ℕ) (roomy : Roomy s start recs₀ text₀) {recs text : List ℕ} (p : Spot) (at : ℕ) (second : Bool)
    {free depth w : ℕ} (g : Writing s start recs₀ text₀ recs text (here p at second) free depth w) where
  blanks_passed : (next : ℕ) → Blanks s at next → Writing s start recs₀ text₀ recs text (here p next second) free depth w
  blanks_passed next b =
      writing_past s start recs₀ text₀ roomy g (here p next second)
      (same_next s p at second next b) (omega (arith, b.0)) b.0

  module _ (a e : ℕ) (m : Means) (told : ToldAt s p at a e m) where
    abbrev G : Glanced s p.report p.skip a e m
    G = subst (λ (x : ℕ). Glanced s p.report p.skip x e m) (sym told.0) told.2

    abbrev r : Nine
    r = nine_for free m (range_of (range a e)) (range_of (range a e))

    next : one_found r (here p e false) ≡ found_of free (next_at s (here p at second))
    next =
        subst (λ (x : Range). one_found (nine_for free m (range_of (range a e)) x) (here p e false) ≡ found_of free (next_at s (here p at second)))
        (place_fine s p.report p.skip a e m G told.1 (here p at second))
        (next_told s p.report p.skip a e m G free (here p at second) refl refl (ap (λ (x : ℕ). start_from x (chars (drop x s))) told.0))

    quick_room : w + record_words ≤ length recs
    quick_room = (room s start recs₀ text₀ roomy g r (here p e false) next).0

    quick_smaller : size_of s (here p e false) < size_of s (here p at second)
    quick_smaller = (has_moved s start recs₀ text₀ roomy g r (here p e false) next).smaller

    quick_writes : (d : ℕ) → d ≡ depth_after m.kind depth → {x : List ℕ} → x ≡ written (words_of (deep_at depth r)) (take (length recs - w) (drop w recs))
        → Writing s start recs₀ text₀ (put_mid w (length recs - w) recs x) text (here p e false) free d (w + record_words)
    quick_writes d hd hx =
        let b = bare_nine s free (range_of (range a e)) (range_of (range a e)) m G.alone.undecoded in
        writing_bare s start recs₀ text₀ roomy g r (here p e false) next b.0 b.1 d hd hx

-- ---- the loop

module _ (s : List ℕ) (p : Spot) (recs₀ : List ℕ) (free depth₀ w₀ : ℕ) where
  onward_past : {recs : List ℕ} (at : ℕ) (second : Bool) {depth w : ℕ} → Onward s p recs₀ free depth₀ w₀ (here p at second) recs depth w
      → (next : ℕ) → Blanks s at next → Onward s p recs₀ free depth₀ w₀ (here p next second) recs depth w
  onward_past at second so_far next b = record {
    ahead = omega (arith, so_far.ahead, b.0);
    on = λ start rows bytes text roomy before. blanks_passed s start rows bytes roomy p at second (so_far.on start rows bytes text roomy before) next b;
  }

  pub none_told : (next : ℕ) → Blanks s p.at next → Onward s p recs₀ free depth₀ w₀ (told_to p next w₀ w₀) recs₀ depth₀ w₀
  none_told next b =
      subst (λ (x : Bool). Onward s p recs₀ free depth₀ w₀ (here p next (if x then p.second else false)) recs₀ depth₀ w₀) (sym (eq-eqb w₀ w₀ refl))
      (onward_past p.at p.second (record { ahead = omega arith; on = λ start rows bytes text roomy before. before }) next b)

  module _ (amid : Amid s p recs₀ free depth₀ w₀) {recs : List ℕ} (at : ℕ) {depth w : ℕ}
      (so_far : Onward s p recs₀ free depth₀ w₀ (told_to p at w₀ w) recs depth w) where
    abbrev second : Bool
    second = (told_to p at w₀ w).second

    abbrev g : Writing s amid.start amid.recs₀ amid.text₀ recs amid.text (told_to p at w₀ w) free depth w
    g = so_far.on amid.start amid.recs₀ amid.text₀ amid.text amid.roomy amid.writing

    pub told-length : length recs ≡ length recs₀
    told-length =
        recs-length s amid.start amid.recs₀ amid.text₀ amid.roomy g
        ∙ sym (recs-length s amid.start amid.recs₀ amid.text₀ amid.roomy amid.writing)

    module _ (a e : ℕ) (m : Means) (told : ToldAt s p at a e m) where
      pub told_fits : length s ≤ limit → (a < 2 ^ 32) × (e < 2 ^ 32) × TextFits free m.text
      told_fits short =
          let i = glance_inside s p.report p.skip at e m told.2 in (
            omega (arith, told.0),
            omega arith,
            glance_fits s p.report p.skip at e m told.2 free short g.going.behind,
          )

      pub told_forward : at < e
      told_forward = go second (quick_smaller s amid.start amid.recs₀ amid.text₀ amid.roomy p at second g a e m told)
        where
          go : (x : Bool) → size_of s (here p e false) < size_of s (here p at x) → at < e
          go true h = omega arith
          go false h = omega arith

      pub told_room : w + record_words ≤ length recs
      told_room = quick_room s amid.start amid.recs₀ amid.text₀ amid.roomy p at second g a e m told

      module _ (next : ℕ) (b : Blanks s e next) (h : w₀ ≤ w) where
        gone : here p next false ≡ told_to p next w₀ (w + record_words)
        gone = none_halfway p w₀ next (w + record_words) (omega arith)

        pub told_smaller : size_of s (told_to p next w₀ (w + record_words)) < size_of s (told_to p at w₀ w)
        told_smaller =
            subst (λ (q : Spot). size_of s q < size_of s (told_to p at w₀ w)) gone
            (omega (arith, b.0, quick_smaller s amid.start amid.recs₀ amid.text₀ amid.roomy p at second g a e m told))

        pub told_on : (d : ℕ) → d ≡ depth_after m.kind depth
            → {x : List ℕ} → x ≡ written (words_of (deep_at depth (nine_for free m (range_of (range a e)) (range_of (range a e))))) (take (length recs - w) (drop w recs))
            → Onward s p recs₀ free depth₀ w₀ (told_to p next w₀ (w + record_words)) (put_mid w (length recs - w) recs x) d (w + record_words)
        told_on d hd {x} hx =
            subst (λ (q : Spot). Onward s p recs₀ free depth₀ w₀ q (put_mid w (length recs - w) recs x) d (w + record_words)) gone
            (onward_past e false
            (record {
              ahead = omega (arith, quick_smaller s amid.start amid.recs₀ amid.text₀ amid.roomy p at second g a e m told, so_far.ahead);
              on = λ start rows bytes text roomy before.
                  quick_writes s start rows bytes roomy p at second (so_far.on start rows bytes text roomy before) a e m told d hd hx;
            }) next b)

-- ---- one writing after another

module _ {s : List ℕ} {p q : Spot} {recs₀ recs : List ℕ} {free depth₀ w₀ depth w : ℕ} (so_far : Onward s p recs₀ free depth₀ w₀ q recs depth w) where
  onward_on : {r : Spot} {recs' : List ℕ} {depth' w' : ℕ} → Onward s q recs free depth w r recs' depth' w' → Onward s p recs₀ free depth₀ w₀ r recs' depth' w'
  onward_on more = record {
    ahead = omega (arith, so_far.ahead, more.ahead);
    on = λ start rows bytes text roomy before. more.on start rows bytes text roomy (so_far.on start rows bytes text roomy before);
  }

  pub amid_on : Amid s p recs₀ free depth₀ w₀ → Amid s q recs free depth w
  amid_on a = record {
    start = a.start;
    recs₀ = a.recs₀;
    text₀ = a.text₀;
    text = a.text;
    roomy = a.roomy;
    writing = so_far.on a.start a.recs₀ a.text₀ a.text a.roomy a.writing;
  }

  -- the words written fit
  pub words_on : Amid s p recs₀ free depth₀ w₀ → w ≤ length recs
  words_on a = let b = amid_on a in words_fit s b.start b.recs₀ b.text₀ b.roomy b.writing

told_again : (p : Spot) (at next w₀ w w' : ℕ) → w₀ ≤ w → w ≤ w' → told_to (told_to p at w₀ w) next w w' ≡ told_to p next w₀ w'
told_again p at next w₀ w w' h k =
    ap (here p next)
    (by_bool (eqb w' w)
    (λ e. rw e (ap (λ (x : ℕ). if eqb x w₀ then p.second else false) (sym (eqb-true w' w e))))
    (λ e. rw (e, ne_eqb w' w₀ (λ f. eqb-false w' w e (omega arith)))))

module _ (s : List ℕ) (p : Spot) (recs₀ : List ℕ) (free depth₀ w₀ at : ℕ) {recs : List ℕ} {depth w : ℕ}
    (so_far : ToldOn s p recs₀ free depth₀ w₀ at recs depth w) (q : Spot) (is : q ≡ told_to p at w₀ w) where
  pub told_amid : Amid s p recs₀ free depth₀ w₀ → Amid s q recs free depth w
  told_amid a = subst (λ (x : Spot). Amid s x recs free depth w) (sym is) (amid_on so_far.1 a)

  pub told_more : (next : ℕ) {recs' : List ℕ} {depth' w' : ℕ} → ToldOn s q recs free depth w next recs' depth' w' → ToldOn s p recs₀ free depth₀ w₀ next recs' depth' w'
  told_more next {recs'} {depth'} {w'} more = (
    omega (arith, so_far.0, more.0),
    subst (λ (x : Spot). Onward s p recs₀ free depth₀ w₀ x recs' depth' w') (told_again p at next w₀ w w' so_far.0 more.0)
        (onward_on so_far.1 (subst (λ (x : Spot). Onward s x recs free depth w (told_to x next w w') recs' depth' w') is more.1)),
  )
