-- What an outcome tells of its item holds on: every step, the end of the text and the first character keep it.
use Rattle.std.proofs.Common.{Err, Ok, Result}
use Prim.Native.Nat.{ℕ, ◌-◌}
use mathlib.Core.Path.{◌≡◌, refl, sym, subst}
use mathlib.Core.Bool.{Bool, true, false}
use mathlib.Core.List.{List, [], ◌∷◌, ◌++◌}
use lib.ListN.{length, drop}
use lib.Dec.{eqb, leb}
use borrow.Author.Tests.{eqb-true}
use Rattle.laws.specs.Quoted.{code, codes, one_of}
use Rattle.laws.proofs.Choice.{by_bool, if_all, if_is, impossible}
use Rattle.chars.specs.Encode.{bytes_of}
use Rattle.digits.specs.Hex.{hex_value, empty}
use Rattle.items.specs.declared.Quotes.{Quotes}
use Rattle.items.specs.declared.Outcome.{Outcome}
use Rattle.items.specs.declared.Phase.{Phase}
use Rattle.items.specs.declared.Phase.TheVariants as ph
use Rattle.items.specs.declared.HashKind.{HashKind}
use Rattle.items.specs.declared.HashKind.TheVariants.{Decided, Bracket, Undecided}
use Rattle.items.specs.declared.CharError.{CharError}
use Rattle.items.specs.declared.CharError.TheVariants.{Wrong, WrongAt}
use Rattle.items.specs.Kinds as kind
use Rattle.items.specs.Classes.{first_of, starts_run, First}
use Rattle.items.specs.Classes.{InQuotes, in_quotes, ends, escapes, plain, AfterBackslash, after_backslash, simple, hex_x, hex_u, blank, newline, invalid}
use Rattle.items.specs.Classes.{InHex, in_hex, closes, stops, digit, InTrim, in_trim, space, line, solid, InNest, in_nest, bar, sharp, inside}
use Rattle.items.specs.Classes.{InWord, in_word, breaks, skips, goes, InRun, in_run, stays, stops_run, leaves, AfterHash, after_hash, radix, opens_nest, datum, twice, angle, value}
use Rattle.items.specs.Classes.{InHash, in_hash, skips_two, tick, commas, stops_hash, stays_hash, InDelim, in_delim, ends_delim, returns, blank_delim, of_delim}
use Rattle.items.specs.Machine.{step_of, finish_of, on_first, on_nest, on_bar, on_sharp, on_quoted, on_escape, on_brace, close_hex, on_hex, on_trim_before, on_trim_after}
use Rattle.items.specs.Machine.{on_word, enter_word, on_run, hash_then, hash_last, on_hash, on_after_hash, on_delim}
use Rattle.items.specs.Readers.{SoFar, eat, scalar_of, failing, hash_kind, here_ends}
use Rattle.items.proofs.Cases.{by_kind}
use Rattle.items_writing.proofs.OutcomeTells.{Calm, other, next, calm_on, Starts, Known, InQuoted, Two, Holds}
use Rattle.items_writing.proofs.OutcomeTells.{Goes, starts_on, quoted_on, two_on, two_calm, decided, lone_open, known_closed, known_unclosed, known_cut}

-- ---- a step

module _ (v : List ℕ) (c : ℕ) where
  goes_nest : (x : InNest) (d : ℕ) → Calm v → Goes v c (on_nest x d)
  goes_nest bar d h = calm_on (c ∷ []) h
  goes_nest sharp d h = calm_on (c ∷ []) h
  goes_nest inside d h = calm_on (c ∷ []) h

  goes_bar : (x : InNest) (d : ℕ) → Calm v → Goes v c (on_bar x d)
  goes_bar bar d h = calm_on (c ∷ []) h
  goes_bar sharp d h = if_all (Goes v c) (leb d 1) (((refl, refl), (refl, refl)), calm_on (c ∷ []) h) (calm_on (c ∷ []) h)
  goes_bar inside d h = calm_on (c ∷ []) h

  goes_sharp : (x : InNest) (d : ℕ) → Calm v → Goes v c (on_sharp x d)
  goes_sharp bar d h = calm_on (c ∷ []) h
  goes_sharp sharp d h = calm_on (c ∷ []) h
  goes_sharp inside d h = calm_on (c ∷ []) h

  goes_quoted : (x : InQuotes) (k : Quotes) (i : SoFar) → InQuoted v k → Goes v c (on_quoted x k i c)
  goes_quoted ends k i h = quoted_on k v c h
  goes_quoted escapes k i h = quoted_on k v c h
  goes_quoted plain k i h = quoted_on k v c h

  goes_escape : (x : AfterBackslash) (k : Quotes) (from : ℕ) (i : SoFar) → InQuoted v k → Goes v c (on_escape x k from i c)
  goes_escape (simple y) k from i h = quoted_on k v c h
  goes_escape hex_x k from i h = quoted_on k v c h
  goes_escape hex_u k from i h = quoted_on k v c h
  goes_escape blank k from i h = quoted_on k v c h
  goes_escape newline k from i h = quoted_on k v c h
  goes_escape invalid k from i h = tt

  known_failing : (report : Bool) (e d from to at : ℕ) (rest u : List ℕ) → Known u (failing report e d from to at rest)
  known_failing true e d from to at rest u = tt
  known_failing false e d from to at rest u = tt

  goes_brace : (report : Bool) (x : InHex) (k : Quotes) (from : ℕ) (i : SoFar) → InQuoted v k → Goes v c (on_brace report x k from i c)
  goes_brace report closes k from i h = known_failing report kind.InvalidHexEscapeLiteral empty from (eat i c).at i.at [] (v ++ (c ∷ []))
  goes_brace report stops k from i h = tt
  goes_brace report digit k from i h = quoted_on k v c h

  goes_close : (report : Bool) (w : Result ℕ CharError) (k : Quotes) (from n to : ℕ) (i : SoFar) → InQuoted v k → Goes v c (close_hex report w k from n to i)
  goes_close report (Ok x) k from n to i h = quoted_on k v c h
  goes_close report (Err (Wrong e d)) k from n to i h = tt
  goes_close report (Err (WrongAt e d p)) k from n to i h =
      let rest : List ℕ = drop p (drop n i.bytes) in
      known_failing report e d from to (i.at - length rest) rest (v ++ (c ∷ []))

  goes_hex : (report : Bool) (x : InHex) (k : Quotes) (closer from n : ℕ) (i : SoFar) → InQuoted v k → Goes v c (on_hex report x k closer from n i c)
  goes_hex report closes k closer from n i h = goes_close report (scalar_of (hex_value (drop n i.bytes))) k from n (eat i c).at i h
  goes_hex report stops k closer from n i h = tt
  goes_hex report digit k closer from n i h = quoted_on k v c h

  goes_before : (x : InTrim) (k : Quotes) (i : SoFar) → InQuoted v k → Goes v c (on_trim_before x k i c)
  goes_before space k i h = quoted_on k v c h
  goes_before line k i h = quoted_on k v c h
  goes_before solid k i h = tt

  goes_trim : (x : InTrim) (k : Quotes) (i : SoFar) → InQuoted v k → Goes v c (on_trim_after x k i c)
  goes_trim space k i h = quoted_on k v c h
  goes_trim line k i h = quoted_on k v c h
  goes_trim solid k i h = goes_quoted (in_quotes k c) k i h

  goes_word : (x : InWord) → Goes v c (on_word x)
  goes_word breaks = tt
  goes_word skips = tt
  goes_word goes = tt

  goes_enter : Goes v c (enter_word c)
  goes_enter = if_all (Goes v c) (eqb c (code "|")) tt (goes_word (in_word c))

  goes_run : (x : InRun) → Calm v → Goes v c (on_run x c)
  goes_run stays h = calm_on (c ∷ []) h
  goes_run stops_run h = h
  goes_run leaves h = goes_enter

  goes_then : (k : HashKind) → ((o : Outcome) → k ≡ Decided o → Known v o) → ((d : ℕ) → k ≡ Bracket d → c ≡ code "(" → Calm (v ++ (c ∷ []))) → Goes v c (hash_then k c)
  goes_then (Decided o) f g = f o refl
  goes_then (Bracket d) f g = if_is (Goes v c) (eqb c (code "(")) (λ e. (((refl, refl), (refl, refl)), g d refl (eqb-true c (code "(") e))) (λ e. goes_enter)
  goes_then Undecided f g = goes_enter

  two_then : Two v → Goes v c (hash_then (hash_kind (bytes_of v)) c)
  two_then t = goes_then (hash_kind (bytes_of v)) (λ o e. decided o t e)
      (λ d e f. calm_on (c ∷ []) (two_calm t (λ g. impossible cc)))

  goes_hash : (x : InHash) → Two v → Goes v c (on_hash x (bytes_of v) c)
  goes_hash skips_two t = two_on c t
  goes_hash tick t = two_on c t
  goes_hash commas t = two_on c t
  goes_hash stops_hash t = two_then t
  goes_hash stays_hash t = two_on c t

  goes_delim : (x : InDelim) → Starts (codes "#<<") v → Goes v c (on_delim x c)
  goes_delim ends_delim s = starts_on (codes "#<<") c s
  goes_delim returns s = starts_on (codes "#<<") c s
  goes_delim blank_delim s = tt
  goes_delim of_delim s = starts_on (codes "#<<") c s

  -- after `#`
  not_mark : (after_hash c ≡ value → ⊥) → eqb c (code "!") ≡ false
  unfolding after_hash
  not_mark h = by_bool (eqb c (code "!"))
      (λ e. absurd (h (rw (eqb-true c (code "!") e))))
      (λ e. e)

  angle_is : after_hash c ≡ angle → c ≡ code "<"
  unfolding after_hash
  angle_is h = by_bool (eqb c (code "<"))
      (λ e. eqb-true c (code "<") e)
      (λ e. let z = rw e at h in
      by_bool (one_of (codes "xXdDoObB") c)
      (λ f. let y = rw f at z in impossible cc)
      (λ f. let y = rw f at z in
      by_bool (eqb c (code "|"))
      (λ g. let x = rw g at y in impossible cc)
      (λ g. let x = rw g at y in
      by_bool (eqb c (code ";"))
      (λ k. let u = rw k at x in impossible cc)
      (λ k. let u = rw k at x in
      by_bool (eqb c (code "#"))
      (λ l. let t = rw l at u in impossible cc)
      (λ l. let t = rw l at u in impossible cc)))))

-- the first character after `#`
module _ (c : ℕ) where
  lone_two : Two (codes "#" ++ (c ∷ []))
  lone_two = (code "#", (c, ([], refl)))

  lone_hash : (x : InHash) → Goes (codes "#") c (on_hash x (bytes_of (codes "#")) c)
  lone_hash skips_two = lone_two
  lone_hash tick = lone_two
  lone_hash commas = lone_two
  lone_hash stops_hash = rw lone_open (goes_then (codes "#") c (Bracket kind.Vector)
      (λ o e. impossible cc)
      (λ d e f. next (rw f)))
  lone_hash stays_hash = lone_two

  lone_after : (x : AfterHash) → after_hash c ≡ x → Goes (codes "#") c (on_after_hash x (bytes_of (codes "#")) c)
  lone_after radix e = next (not_mark (codes "#") c (λ f. impossible cc))
  lone_after opens_nest e = next (not_mark (codes "#") c (λ f. impossible cc))
  lone_after datum e = (((refl, refl), (refl, refl)), next (not_mark (codes "#") c (λ f. impossible cc)))
  lone_after twice e = tt
  lone_after angle e = rw (angle_is (codes "#") c e)
  lone_after value e = lone_hash (in_hash c)

-- ---- every phase

module _ (v : List ℕ) (c : ℕ) (i : SoFar) (is : i.bytes ≡ bytes_of v) where
  pub goes_on : (report : Bool) (p : Phase) → Holds v p → Goes v c (step_of report p i c)
  goes_on report ph.InLine h = if_all (Goes v c) (eqb c (code "\n")) (((refl, refl), (refl, refl)), calm_on (c ∷ []) h) (calm_on (c ∷ []) h)
  goes_on report ph.AfterComma h = rw h (if_is (Goes (codes ",") c) (eqb c (code "@")) (λ e. (((refl, refl), (refl, refl)), other refl)) (λ e. (((refl, refl), (refl, refl)), other refl)))
  goes_on report ph.AfterHash h = rw (is, h) (lone_after c (after_hash c) refl)
  goes_on report ph.AfterAngle h = rw h (if_is (Goes (codes "#<") c) (eqb c (code "<")) (λ e. ([], rw (eqb-true c (code "<") e))) (λ e. goes_enter (codes "#<") c))
  goes_on report ph.HereDelim h = goes_delim v c (in_delim c) h
  goes_on report ph.HereStart h = starts_on (codes "#<<") c h
  goes_on report ph.HereBody h = if_all (Goes v c) (here_ends i.bytes) h (starts_on (codes "#<<") c h)
  goes_on report ph.InWord h = goes_word v c (in_word c)
  goes_on report ph.WordEscape h = tt
  goes_on report ph.InRun h = goes_run v c (in_run report i.bytes c) h
  goes_on report ph.InHash h = rw is (goes_hash v c (in_hash c) h)
  goes_on report ph.HashEscape h = two_on c h
  goes_on report ph.HashTick h = rw is (two_then v c h)
  goes_on report ph.HashComma h = rw is (if_all (Goes v c) (eqb c (code "@")) (two_on c h) (two_then v c h))
  goes_on report (ph.Nest d) h = goes_nest v c (in_nest c) d h
  goes_on report (ph.NestBar d) h = goes_bar v c (in_nest c) d h
  goes_on report (ph.NestSharp d) h = goes_sharp v c (in_nest c) d h
  goes_on report (ph.Quoted k) h = goes_quoted v c (in_quotes k c) k i h
  goes_on report (ph.Closed k) h = rw is (known_closed k v h)
  goes_on report (ph.TrimBefore k) h = goes_before v c (in_trim c) k i h
  goes_on report (ph.TrimAfter k) h = goes_trim v c (in_trim c) k i h
  goes_on report (ph.Escape k from) h = goes_escape v c (after_backslash c) k from i h
  goes_on report (ph.Brace k from) h = if_all (Goes v c) (eqb c (code "{")) (quoted_on k v c h) (goes_brace v c report (in_hex k (code ";") c) k from i h)
  goes_on report (ph.Hex k closer from n) h = goes_hex v c report (in_hex k closer c) k closer from n i h
  goes_on report (ph.Done o) h = h

-- ---- the end

last_known : (v : List ℕ) → Two v → Known v (hash_last (hash_kind (bytes_of v)))
last_known v t = by_kind (hash_kind (bytes_of v)) (λ o e. rw e (decided o t e)) (λ d e. rw e tt) (λ e. rw e tt)

pub finish_known : (v : List ℕ) (p : Phase) → Holds v p → Known v (finish_of p (bytes_of v))
finish_known v ph.InLine h = (((refl, refl), (refl, refl)), h)
finish_known v ph.AfterComma h = (((refl, refl), (refl, refl)), subst Calm (sym h) (other refl))
finish_known v ph.AfterHash h = rw (h, lone_open) tt
finish_known v ph.AfterAngle h = tt
finish_known v ph.HereDelim h = tt
finish_known v ph.HereStart h = tt
finish_known v ph.HereBody h = if_all (Known v) (here_ends (bytes_of v)) h tt
finish_known v ph.InWord h = tt
finish_known v ph.WordEscape h = tt
finish_known v ph.InRun h = h
finish_known v ph.InHash h = last_known v h
finish_known v ph.HashEscape h = last_known v h
finish_known v ph.HashTick h = last_known v h
finish_known v ph.HashComma h = last_known v h
finish_known v (ph.Nest d) h = tt
finish_known v (ph.NestBar d) h = tt
finish_known v (ph.NestSharp d) h = tt
finish_known v (ph.Quoted k) h = known_unclosed k v
finish_known v (ph.Closed k) h = known_closed k v h
finish_known v (ph.TrimBefore k) h = known_cut k v
finish_known v (ph.TrimAfter k) h = known_cut k v
finish_known v (ph.Escape k from) h = known_cut k v
finish_known v (ph.Brace k from) h = known_cut k v
finish_known v (ph.Hex k closer from n) h = known_cut k v
finish_known v (ph.Done o) h = h

-- ---- the first character

pub first_holds : (c : ℕ) → Holds (c ∷ []) (on_first (first_of c))
unfolding first_of
first_holds c =
    let P : First → Type 0 = λ f. Holds (c ∷ []) (on_first f) in
    if_is P (eqb c (code ";")) (λ e. subst (λ x. Calm (x ∷ [])) (sym (eqb-true c (code ";") e)) (other refl)) (λ _.
    if_is P (eqb c (code "\"")) (λ e. ([], rw (eqb-true c (code "\"") e))) (λ _.
    if_is P (eqb c (code ",")) (λ e. rw (eqb-true c (code ",") e)) (λ _.
    if_is P (eqb c (code "#")) (λ e. rw (eqb-true c (code "#") e)) (λ n.
    if_all P (eqb c (code "(")) (((refl, refl), (refl, refl)), other n) (if_all P (eqb c (code "[")) (((refl, refl), (refl, refl)), other n)
    (if_all P (eqb c (code "{")) (((refl, refl), (refl, refl)), other n) (if_all P (eqb c (code ")")) (((refl, refl), (refl, refl)), other n)
    (if_all P (eqb c (code "]")) (((refl, refl), (refl, refl)), other n) (if_all P (eqb c (code "}")) (((refl, refl), (refl, refl)), other n)
    (if_all P (eqb c (code "'")) (((refl, refl), (refl, refl)), other n) (if_all P (eqb c (code "`")) (((refl, refl), (refl, refl)), other n)
    (if_all P (starts_run c) (other n) (if_all P (eqb c (code "|")) tt (if_all P (eqb c (code "\\")) tt tt))))))))))))))
