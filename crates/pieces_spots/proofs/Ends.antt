-- What ends an item, and what it is then, by the number of its stage.
use Prim.Native.Nat.{ℕ, ◌+◌, ◌-◌, ◌≤◌}
use mathlib.Core.Path.{◌≡◌, refl, sym, ap, subst}
use mathlib.Core.Bool.{false}
use mathlib.Core.List.{List, [], ◌∷◌}
use lib.ListN.{length}
use native.Mathlib.Omega.{arith}
use Rattle.laws.specs.Quoted.{code}
use Rattle.chars.specs.Blank.{is_blank}
use Rattle.items.specs.Kinds as kind
use Rattle.items.specs.Classes.{in_word, breaks_word, in_run, stays_run, ends_run, in_hash, ends_hash}
use Rattle.items.specs.declared.Quotes.TheVariants.{Double, Lines}
use Rattle.items.specs.declared.Outcome.TheVariants.{Token, Str, Word, Run, Lined}
use Rattle.items.specs.declared.Phase.TheVariants as ph
use Rattle.meaning.specs.Meant.{means}
use Rattle.meaning.specs.declared.Means.{Means}
use Rattle.laws.specs.Texts.{same}
use Rattle.chars.specs.Encode.{bytes_of, utf8}
use Rattle.items.specs.Readers.{hash_kind, bool_kind, lined_of}
use Rattle.items.specs.Meaning.{escaped, lined_text}
use Rattle.items.specs.declared.HashKind.TheVariants.{Decided}
use Rattle.meaning.specs.declared.Text.TheVariants.{Nowhere, Source}
use Rattle.pieces_lent.specs.Coding.{quotes_of, stage_of}
use Rattle.items_telling.specs.Tells.{Tells}
use Rattle.items_telling.specs.declared.Quick.{Quick}
use Rattle.items_telling.specs.declared.Quick.TheVariants.{Item, Bracket, Other}
use Rattle.pieces_spots.specs.Spots.{StopsWord, Stops, TellsSign, TellsAt}

pub close_round : Stops (code ")")
unfolding in_word breaks_word in_run stays_run ends_run is_blank in_hash ends_hash
close_round = record { word = λ report i. refl; sign = refl; run = λ report i. refl }

pub space : Stops 0x20
unfolding in_word breaks_word in_run stays_run ends_run is_blank in_hash ends_hash
space = record { word = λ report i. refl; sign = refl; run = λ report i. refl }

pub newline : Stops 0x0A
unfolding in_word breaks_word in_run stays_run ends_run is_blank in_hash ends_hash
newline = record { word = λ report i. refl; sign = refl; run = λ report i. refl }

pub open_round : Stops (code "(")
unfolding in_word breaks_word in_run stays_run ends_run is_blank in_hash ends_hash
open_round = record { word = λ report i. refl; sign = refl; run = λ report i. refl }

pub close_square_case : Stops (code "]")
unfolding in_word breaks_word in_run stays_run ends_run is_blank in_hash ends_hash
close_square_case = record { word = λ report i. refl; sign = refl; run = λ report i. refl }

pub open_square_case : Stops (code "[")
unfolding in_word breaks_word in_run stays_run ends_run is_blank in_hash ends_hash
open_square_case = record { word = λ report i. refl; sign = refl; run = λ report i. refl }

pub return : Stops 0x0D
unfolding in_word breaks_word in_run stays_run ends_run is_blank in_hash ends_hash
return = record { word = λ report i. refl; sign = refl; run = λ report i. refl }

pub tab : Stops 0x09
unfolding in_word breaks_word in_run stays_run ends_run is_blank in_hash ends_hash
tab = record { word = λ report i. refl; sign = refl; run = λ report i. refl }

pub quote : StopsWord (code "\"")
unfolding in_word breaks_word
quote report i = refl

pub semicolon : StopsWord (code ";")
unfolding in_word breaks_word
semicolon report i = refl

module _ (stage which detail c at : ℕ) (raw : List ℕ) where
  abbrev T : Quick → Type 0
  T = TellsAt stage which detail c at raw

  pub token_ends : (e : ℕ) → stage ≡ 31 → which ≤ 31 → T (Item (means which detail Nowhere) at e)
  unfolding stage_of
  token_ends e k h = record {
    phase = ph.Done (Token which detail);
    what = Token which detail;
    stands = λ start. rw k;
    stops = λ report i h. refl;
    quiet = λ report last i. refl;
    means = λ report. refl;
    fine = omega arith;
  }

  pub token_told : (e : ℕ) (q : Quick) → q ≡ Item (means which detail Nowhere) at e → stage ≡ 31 → which ≤ 31 → T q
  token_told e q f k h = subst T (sym f) (token_ends e k h)

  pub word_ends : stage ≡ 14 → StopsWord c → (q : Quick) → Tells Word at raw q → T q
  unfolding stage_of
  word_ends k s (Item m a e) t = record {
    phase = ph.InWord;
    what = Word;
    stands = λ start. rw k;
    stops = λ report i h. s report i;
    quiet = λ report last i. refl;
    means = t.4.means;
    fine = t.3;
  }
  word_ends k s (Bracket m a e) t = tt
  word_ends k s Other t = tt

  pub run_ends : stage ≡ 16 → Stops c → (q : Quick) → Tells Run at raw q → T q
  unfolding stage_of
  run_ends k s (Item m a e) t = record {
    phase = ph.InRun;
    what = Run;
    stands = λ start. rw k;
    stops = λ report i h. s.run report i;
    quiet = λ report last i. refl;
    means = t.4.means;
    fine = t.3;
  }
  run_ends k s (Bracket m a e) t = tt
  run_ends k s Other t = tt

  pub lined_ends : (e : ℕ) → stage ≡ 25 → quotes_of which ≡ Lines → lined_of raw ≡ Lined → escaped raw ≡ false → e ≡ at + length raw
      → T (Item (means kind.Identifier 0 (Source (at + 1) (e - 1))) at e)
  unfolding stage_of lined_text
  lined_ends e k w is plain long = record {
    phase = ph.Closed Lines;
    what = Lined;
    stands = λ start. rw (k, w);
    stops = λ report i h. rw (h, is);
    quiet = λ report last i. refl;
    means = λ report. rw (long, plain);
    fine = omega arith;
  }

  pub string_ends : stage ≡ 25 → which ≡ 0 → (q : Quick) → Tells Str at raw q → T q
  unfolding stage_of
  string_ends k w (Item m a e) t = record {
    phase = ph.Closed Double;
    what = Str;
    stands = λ start. rw (k, w);
    stops = λ report i h. refl;
    quiet = λ report last i. refl;
    means = t.4.means;
    fine = t.3;
  }
  string_ends k w (Bracket m a e) t = tt
  string_ends k w Other t = tt

  pub boolean_ends : stage ≡ 17 → Stops c → (q : Quick) → TellsSign raw q → T q
  unfolding stage_of
  boolean_ends k s (Item m a e) t = record {
    phase = ph.InHash;
    what = Token kind.BooleanLiteral m.detail;
    stands = λ start. rw k;
    stops = λ report i h. rw (s.sign, h, t.0);
    quiet = λ report last i. refl;
    means = λ report. ap (λ (x : Means). x ∷ []) t.1;
    fine = rw t.1 (omega arith);
  }
  boolean_ends k s (Bracket m a e) t = tt
  boolean_ends k s Other t = tt

-- a boolean by its two bytes
pub true_spells : (raw : List ℕ) → raw ≡ code "#" ∷ code "t" ∷ [] → hash_kind raw ≡ Decided (Token kind.BooleanLiteral 1)
unfolding hash_kind bool_kind same bytes_of utf8
true_spells raw e = rw e

pub false_spells : (raw : List ℕ) → raw ≡ code "#" ∷ code "f" ∷ [] → hash_kind raw ≡ Decided (Token kind.BooleanLiteral 0)
unfolding hash_kind bool_kind same bytes_of utf8
false_spells raw e = rw e
