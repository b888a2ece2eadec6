-- What ended an item that is neither a word nor a string leaves it what a space leaves it.
use Prim.Native.Nat.{ℕ, ◌<◌}
use mathlib.Core.Path.{◌≡◌, refl, sym, ap, subst, ◌∙◌}
use mathlib.Core.Bool.{true, false, ◌&&◌}
use mathlib.Core.List.{List}
use lib.ListN.{length}
use lib.Dec.{eqb, ltb}
use native.Mathlib.Omega.{arith}
use Rattle.laws.specs.Quoted.{code}
use Rattle.laws.proofs.Choice.{by_bool, impossible}
use Rattle.chars.specs.Blank.{is_blank}
use Rattle.numbers.specs.Grammar.{parse_number}
use Rattle.items.specs.declared.Outcome.{Outcome}
use Rattle.items.specs.declared.Outcome.TheVariants.{Word, Run}
use Rattle.items.specs.declared.Phase.{Phase}
use Rattle.items.specs.declared.Phase.TheVariants as ph
use Rattle.items.specs.declared.Next.TheVariants.{Stop}
use Rattle.items.specs.declared.HashKind.{HashKind}
use Rattle.items.specs.declared.HashKind.TheVariants.{Decided, Bracket, Undecided}
use Rattle.items.specs.declared.Quotes.{Quotes}
use Rattle.items.specs.Classes.{in_quotes, AfterBackslash, after_backslash, simple, hex_x, hex_u, blank, newline, invalid, in_hex, InTrim, in_trim, space, line, solid, in_nest}
use Rattle.items.specs.Classes.{InWord, in_word, breaks, skips, goes, InRun, in_run, stays, stops_run, leaves, AfterHash, after_hash, radix, opens_nest, datum, twice, angle, value}
use Rattle.items.specs.Classes.{InHash, in_hash, skips_two, tick, commas, stops_hash, stays_hash, in_delim, breaks_word, stays_run, ends_run, ends_hash}
use Rattle.items.specs.Machine.{step_of, on_escape, on_trim_before, on_word, enter_word, on_run, hash_then, hash_last, on_hash, on_after_hash}
use Rattle.items.specs.Readers.{SoFar, first_is, hash_kind}
use Rattle.items.specs.Meaning.{meaning_of, word_kind, word_means, run_means}
use Rattle.items.specs.Kinds as kind
use Rattle.items_writing.proofs.ReadsBack.{kind_in}
use Rattle.items_writing.proofs.Phases.{eats_on, stop_is, nest_eats, bar_eats, sharp_eats, quoted_eats, trim_eats, hex_eats, brace_eats, delim_eats, line_eats, then_space, enter_space}
use Rattle.items_writing.proofs.WordTable.{word_number}

-- the item of an outcome is no error and no identifier
abbrev pub Plainly : Outcome → List ℕ → Type 0
Plainly o raw = (s e : ℕ) → (kind_in (meaning_of true o s e raw) < kind.first_error) × (eqb (kind_in (meaning_of true o s e raw)) kind.Identifier ≡ false)

-- a space ends the item as well, with an outcome that means the same
pub record AtSpace (q : Phase) (i : SoFar) (o : Outcome) : Type 0 where
  pub what : Outcome
  pub stops : step_of true q i (code " ") ≡ Stop what
  pub means_same : (s e : ℕ) → meaning_of true what s e i.bytes ≡ meaning_of true o s e i.bytes

the_same : {q : Phase} {i : SoFar} (o : Outcome) → step_of true q i (code " ") ≡ Stop o → AtSpace q i o
the_same o e = record { what = o; stops = e; means_same = λ s t. refl }

-- ---- words

word_stops : (x : InWord) {o : Outcome} → on_word x ≡ Stop o → o ≡ Word
word_stops breaks e = sym (stop_is e)
word_stops skips e = absurd (eats_on e)
word_stops goes e = absurd (eats_on e)

enter_stops : (c : ℕ) {o : Outcome} → enter_word c ≡ Stop o → o ≡ Word
enter_stops c e = by_bool (eqb c (code "|"))
    (λ f. absurd (eats_on (rw f at e)))
    (λ f. word_stops (in_word c) (rw f at e))

-- a word that is no identifier is no number
pub word_is : (raw : List ℕ) → Plainly Word raw → eqb (word_kind raw) kind.Identifier ≡ false
unfolding word_means
word_is raw h = by_bool (eqb (word_kind raw) kind.Identifier)
    (λ e. by_bool (first_is (code "+") raw && ltb 1 (length raw))
    (λ f. let z = rw (e, f) at (h 0 0).1 in impossible cc)
    (λ f. let z = rw (e, f) at (h 0 0).1 in impossible cc))
    (λ e. e)

run_word : (raw : List ℕ) → Plainly Word raw → (s e : ℕ) → run_means (parse_number raw) s e raw ≡ word_means s e raw
unfolding run_means
run_word raw h s e = rw (word_number raw (word_is raw h))

-- ---- words that start with `#`

then_stops : (k : HashKind) (c : ℕ) {o : Outcome} → hash_then k c ≡ Stop o → o ≡ hash_last k
then_stops (Decided w) c e = sym (stop_is e)
then_stops (Bracket d) c e = by_bool (eqb c (code "("))
    (λ f. absurd (eats_on (rw f at e)))
    (λ f. enter_stops c (rw f at e))
then_stops Undecided c e = enter_stops c e

hash_stops : (x : InHash) (raw : List ℕ) (c : ℕ) {o : Outcome} → on_hash x raw c ≡ Stop o → o ≡ hash_last (hash_kind raw)
hash_stops skips_two raw c e = absurd (eats_on e)
hash_stops tick raw c e = absurd (eats_on e)
hash_stops commas raw c e = absurd (eats_on e)
hash_stops stops_hash raw c e = then_stops (hash_kind raw) c e
hash_stops stays_hash raw c e = absurd (eats_on e)

after_stops : (x : AfterHash) (raw : List ℕ) (c : ℕ) {o : Outcome} → on_after_hash x raw c ≡ Stop o → o ≡ hash_last (hash_kind raw)
after_stops radix raw c e = absurd (eats_on e)
after_stops opens_nest raw c e = absurd (eats_on e)
after_stops datum raw c e = absurd (eats_on e)
after_stops twice raw c e = absurd (eats_on e)
after_stops angle raw c e = absurd (eats_on e)
after_stops value raw c e = hash_stops (in_hash c) raw c e

-- ---- errors

escape_stops : (x : AfterBackslash) (k : Quotes) (from : ℕ) (i : SoFar) (c : ℕ) (raw : List ℕ) {o : Outcome} → on_escape x k from i c ≡ Stop o → Plainly o raw → ⊥
escape_stops (simple y) k from i c raw e h = eats_on e
escape_stops hex_x k from i c raw e h = eats_on e
escape_stops hex_u k from i c raw e h = eats_on e
escape_stops blank k from i c raw e h = eats_on e
escape_stops newline k from i c raw e h = eats_on e
escape_stops invalid k from i c raw e h = let g = subst (λ o. Plainly o raw) (sym (stop_is e)) h in omega (arith, (g 0 0).0)

before_stops : (x : InTrim) (k : Quotes) (i : SoFar) (c : ℕ) (raw : List ℕ) {o : Outcome} → on_trim_before x k i c ≡ Stop o → Plainly o raw → ⊥
before_stops space k i c raw e h = eats_on e
before_stops line k i c raw e h = eats_on e
before_stops solid k i c raw e h = let g = subst (λ o. Plainly o raw) (sym (stop_is e)) h in omega (arith, (g 0 0).0)

-- ---- number runs

run_stops : (x : InRun) (i : SoFar) (c : ℕ) {o : Outcome} → on_run x c ≡ Stop o → step_of true ph.InRun i (code " ") ≡ Stop Run → Plainly o i.bytes → AtSpace ph.InRun i o
run_stops stays i c e w h = absurd (eats_on e)
run_stops stops_run i c e w h = the_same _ (w ∙ e)
run_stops leaves i c {o} e w h =
    let f : o ≡ Word = enter_stops c e in
    record { what = Run; stops = w; means_same = λ s t. rw f (run_word i.bytes (subst (λ x. Plainly x i.bytes) f h) s t) }

-- ---- every phase

pub at_space_lem : (q : Phase) (i : SoFar) (c : ℕ) (o : Outcome) → step_of true q i c ≡ Stop o → Plainly o i.bytes → AtSpace q i o
unfolding in_word breaks_word is_blank in_run stays_run ends_run after_hash in_hash ends_hash
at_space_lem ph.InLine i c o e h = absurd (line_eats c i e)
at_space_lem ph.AfterComma i c o e h = by_bool (eqb c (code "@"))
    (λ f. absurd (eats_on (rw f at e)))
    (λ f. the_same o (rw f at e))
at_space_lem ph.AfterHash i c o e h = the_same o (then_space (hash_kind i.bytes) ∙ ap Stop (sym (after_stops (after_hash c) i.bytes c e)))
at_space_lem ph.AfterAngle i c o e h = by_bool (eqb c (code "<"))
    (λ f. absurd (eats_on (rw f at e)))
    (λ f. the_same o (enter_space ∙ ap Stop (sym (enter_stops c (rw f at e)))))
at_space_lem ph.HereDelim i c o e h = absurd (delim_eats (in_delim c) c e)
at_space_lem ph.HereStart i c o e h = absurd (eats_on e)
at_space_lem ph.HereBody i c o e h = the_same o e
at_space_lem ph.InWord i c o e h = the_same o (enter_space ∙ ap Stop (sym (word_stops (in_word c) e)))
at_space_lem ph.WordEscape i c o e h = absurd (eats_on e)
at_space_lem ph.InRun i c o e h = run_stops (in_run true i.bytes c) i c e refl h
at_space_lem ph.InHash i c o e h = the_same o (then_space (hash_kind i.bytes) ∙ ap Stop (sym (hash_stops (in_hash c) i.bytes c e)))
at_space_lem ph.HashEscape i c o e h = absurd (eats_on e)
at_space_lem ph.HashTick i c o e h = the_same o (then_space (hash_kind i.bytes) ∙ ap Stop (sym (then_stops (hash_kind i.bytes) c e)))
at_space_lem ph.HashComma i c o e h = by_bool (eqb c (code "@"))
    (λ f. absurd (eats_on (rw f at e)))
    (λ f. the_same o (then_space (hash_kind i.bytes) ∙ ap Stop (sym (then_stops (hash_kind i.bytes) c (rw f at e)))))
at_space_lem (ph.Nest d) i c o e h = absurd (nest_eats (in_nest c) d e)
at_space_lem (ph.NestBar d) i c o e h = absurd (bar_eats (in_nest c) d e)
at_space_lem (ph.NestSharp d) i c o e h = absurd (sharp_eats (in_nest c) d e)
at_space_lem (ph.Quoted k) i c o e h = absurd (quoted_eats (in_quotes k c) k i c e)
at_space_lem (ph.Closed k) i c o e h = the_same o e
at_space_lem (ph.TrimBefore k) i c o e h = absurd (before_stops (in_trim c) k i c i.bytes e h)
at_space_lem (ph.TrimAfter k) i c o e h = absurd (trim_eats (in_trim c) k i c e)
at_space_lem (ph.Escape k from) i c o e h = absurd (escape_stops (after_backslash c) k from i c i.bytes e h)
at_space_lem (ph.Brace k from) i c o e h = absurd (brace_eats k from i c e)
at_space_lem (ph.Hex k closer from n) i c o e h = absurd (hex_eats (in_hex k closer c) k closer from n i c e)
at_space_lem (ph.Done w) i c o e h = the_same o e
