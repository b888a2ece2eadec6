-- The items of a text in both modes are the same up to the first number that report mode alone ends (specs/Together), by `report_plain`.
use Rattle.std.proofs.Common.{Ok, Err}
use Prim.Native.Nat.{ℕ, zero, suc, ◌+◌}
use mathlib.Core.Path.{◌≡◌, refl, sym, ap, subst, ◌∙◌}
use mathlib.Core.Logic.{inl, inr}
use mathlib.Core.Bool.{Bool, true, false, ◌&&◌, ◌||◌}
use mathlib.Core.List.{List, [], ◌∷◌, ◌++◌, append_assoc, map}
use lib.ListN.{length, drop}
use lib.Dec.{eqb, ltb}
use native.Mathlib.Omega.{arith}
use borrow.Author.Tests.{eqb-true}
use Rattle.laws.specs.Quoted.{code, codes, one_of}
use Rattle.laws.proofs.Choice.{by_bool, impossible}
use Rattle.chars.specs.Blank.{is_blank}
use Rattle.chars.specs.Encode.{width}
use Rattle.chars.specs.Utf8.{front, Front}
use Rattle.chars.specs.Utf8 as Utf8
use Rattle.numbers.specs.Grammar.{parse_number, numeric, Parsed}
use Rattle.numbers.specs.declared.ParseError.TheVariants as parsed
use Rattle.items.specs.declared.Next.{Next}
use Rattle.items.specs.declared.Next.TheVariants.{Eat, Stop}
use Rattle.items.specs.declared.Outcome.{Outcome}
use Rattle.items.specs.declared.Outcome.TheVariants.{Token, Str, HereStr, Word, Run, Lined, Keyword, Character, Error, ErrorAt}
use Rattle.items.specs.declared.Phase.{Phase}
use Rattle.items.specs.Classes.{first_of}
use Rattle.items.specs.Items.{Place, unset, range_after, Item, items_of, extent_items, items_from, past_line, after_pound, items, byte_count, standing}
use Rattle.items.specs.Machine.{step_of, on_first, scan_of}
use Rattle.items.specs.Meaning.{Meaning, run_means, lookup, lower, char_names, unnamed, before_delimiter, nameless, only_one, spelled_out, character_of, char_inside, character_means, meaning_of}
use Rattle.items.specs.Readers.{SoFar, so_far, eat, got, first_is, read_item, Read}
use Rattle.items.proofs.Same.{item_same}
use Rattle.items_report.specs.AsPlain.{Alike, AsPlain}
use Rattle.items_report.specs.AsPlain as as_plain
use Rattle.items_report.specs.Together.{Means, equal, Together, ends, next, number}
use Rattle.items_report.specs.Together as beside
use Rattle.items_report.proofs.AsPlain.{report_plain}

-- ---- what is read alike means the same

nameless_means : (t : List ℕ) → Means (character_means (nameless true t)) (character_means (nameless false t))
unfolding nameless
nameless_means t = by_bool (ltb (suc (before_delimiter (drop 1 t))) (length t)) (λ e. rw e Means.thirteen) (λ e. rw e (equal _))

only_means : (f : Front) (t : List ℕ) → Means (character_means (only_one true f t)) (character_means (only_one false f t))
only_means (Utf8.char c n) t = by_bool (eqb n (length t)) (λ e. rw e (equal _)) (λ e. rw e (nameless_means t))
only_means (Utf8.bad n) t = nameless_means t
only_means Utf8.cut t = nameless_means t
only_means Utf8.none t = nameless_means t

char_means : (t : List ℕ) → Means (character_means (character_of true t)) (character_means (character_of false t))
unfolding character_of spelled_out
char_means t = by_bool (eqb (lookup char_names (map lower t) unnamed) unnamed)
    (λ e. rw e (by_bool ((first_is (code "u") t || first_is (code "x") t) && ltb 1 (length t))
    (λ f. rw f (equal _))
    (λ f. rw f (only_means (front t) t))))
    (λ e. rw e (equal _))

pub alike_means : (raw : List ℕ) (o q : Outcome) → Alike raw o q → (s e : ℕ) → Means (meaning_of true o s e raw) (meaning_of false q s e raw)
unfolding run_means
alike_means raw o q (Alike.same (Token k d)) s e = equal _
alike_means raw o q (Alike.same Str) s e = equal _
alike_means raw o q (Alike.same HereStr) s e = equal _
alike_means raw o q (Alike.same Word) s e = equal _
alike_means raw o q (Alike.same Run) s e = equal _
alike_means raw o q (Alike.same Lined) s e = equal _
alike_means raw o q (Alike.same Keyword) s e = equal _
alike_means raw o q (Alike.same Character) s e = char_means (char_inside raw)
alike_means raw o q (Alike.same (Error n d)) s e = equal _
alike_means raw o q (Alike.same (ErrorAt n d a b)) s e = equal _
alike_means raw o q (Alike.error n d a b from to) s e = equal _
alike_means raw o q (Alike.word h) s e = rw h (equal _)

-- ---- where an item ends

-- what a reader ate of the characters cs, which stand at the place `at`
record Ate (at : ℕ) (cs : List ℕ) (r : Read) : Type 0 where
  pub eaten : List ℕ
  pub split : cs ≡ eaten ++ r.rest
  pub place : r.item.at ≡ at + byte_count eaten

abbrev after : Bool → Next → SoFar → ℕ → List ℕ → Read
after report n i c cs = elim n [ Eat q ↦ scan_of report q (eat i c) cs | Stop o ↦ got o i (c ∷ cs) ]

after_ate : (report : Bool) (n : Next) (i : SoFar) (c : ℕ) (cs : List ℕ) → ((q : Phase) → Ate (i.at + width c) cs (scan_of report q (eat i c) cs))
    → Ate i.at (c ∷ cs) (after report n i c cs)
after_ate report (Eat q) i c cs more =
    let m = more q in
    record { eaten = c ∷ m.eaten; split = ap (λ (l : List ℕ). c ∷ l) m.split; place = omega (arith, m.place) }
after_ate report (Stop o) i c cs more = record { eaten = []; split = refl; place = omega arith }

scan_ate : (report : Bool) (p : Phase) (i : SoFar) (cs : List ℕ) → Ate i.at cs (scan_of report p i cs)
unfolding scan_of
scan_ate report p i [] = record { eaten = []; split = refl; place = omega arith }
scan_ate report p i (c ∷ cs) = after_ate report (step_of report p i c) i c cs (λ q. scan_ate report q (eat i c) cs)

item_ate : (report : Bool) (at c : ℕ) (cs : List ℕ) → Ate at (c ∷ cs) (read_item report at c cs)
item_ate report at c cs =
    let m : Ate (at + width c) cs (read_item report at c cs) = subst (λ (r : Read). Ate (at + width c) cs r) (item_same report at c cs)
    (scan_ate report (on_first (first_of c)) (eat (so_far [] at) c) cs) in
    record { eaten = c ∷ m.eaten; split = ap (λ (l : List ℕ). c ∷ l) m.split; place = omega (arith, m.place) }

count_append : (t u : List ℕ) → byte_count (t ++ u) ≡ byte_count t + byte_count u
count_append [] u = omega arith
count_append (c ∷ t) u = omega (arith, count_append t u)

-- ---- a text

module _ (text : List ℕ) where
  -- the items of one extent
  means_next : (ms : List Meaning) (l m : Place) (s e : ℕ) {is js : List Item} → Together text is js → Together text (items_of true l s e ms ++ is) (items_of false m s e ms ++ js)
  means_next [] l m s e t = t
  means_next (x ∷ xs) l m s e t = next (beside.Same.same refl refl refl refl refl) (means_next xs l m s e t)

  extent_next : (ms ns : List Meaning) → Means ms ns → (l m : Place) (s e : ℕ) {is js : List Item} → Together text is js
      → Together text (items_of true l s e ms ++ is) (items_of false m s e ns ++ js)
  extent_next ms ns (equal xs) l m s e t = means_next xs l m s e t
  extent_next ms ns Means.thirteen l m s e t = next (beside.Same.thirteen refl refl refl refl refl refl) t

  alike_next : (l m : Place) (s : ℕ) (o q : Outcome) (i : SoFar) {is js : List Item} → Alike i.bytes o q → Together text is js
      → Together text (extent_items true l s o i ++ is) (extent_items false m s q i ++ js)
  unfolding extent_items
  alike_next l m s o q i a t = extent_next (meaning_of true o s i.at i.bytes) (meaning_of false q s i.at i.bytes) (alike_means i.bytes o q a s i.at) _ _ s i.at t

  -- a number that ends before c
  run_next : (k : Parsed) (l : Place) (s e : ℕ) (raw : List ℕ) (is : List Item) {js : List Item} → numeric k ≡ true → (b : List ℕ) (c : ℕ) (a : List ℕ)
      → text ≡ b ++ (c ∷ a) → e ≡ byte_count b → one_of (codes ";\"|") c ≡ true → Together text (items_of true l s e (run_means k s e raw) ++ is) js
  unfolding run_means
  run_next (Ok p) l s e raw is h b c a t u o = number (inl refl) b c a t u o
  run_next (Err parsed.NoNumber) l s e raw is h b c a t u o = impossible cc
  run_next (Err parsed.ZeroDenominator) l s e raw is h b c a t u o = number (inr refl) b c a t u o

  number_next : (l : Place) (s : ℕ) (o : Outcome) (i : SoFar) (is : List Item) {js : List Item} → o ≡ Run → numeric (parse_number i.bytes) ≡ true → (b : List ℕ) (c : ℕ) (a : List ℕ)
      → text ≡ b ++ (c ∷ a) → i.at ≡ byte_count b → one_of (codes ";\"|") c ≡ true → Together text (extent_items true l s o i ++ is) js
  unfolding extent_items
  number_next l s o i is r h b c a t u w = rw r (run_next (parse_number i.bytes) (range_after true (standing true l) s Run i) s i.at i.bytes is h b c a t u w)

  -- one item, and what follows it
  read_next : (turns : ℕ) (l m : Place) (at : ℕ) (before : List ℕ) (cs : List ℕ) (r p : Read) → text ≡ before ++ cs → at ≡ byte_count before → Ate at cs r → AsPlain r p
      → ((x y : Place) (b u : List ℕ) (n : ℕ) → text ≡ b ++ u → n ≡ byte_count b → Together text (items_from true turns x n u) (items_from false turns y n u))
      → Together text (extent_items true l at r.what r.item ++ items_from true turns (range_after true l at r.what r.item) r.item.at r.rest)
      (extent_items false m at p.what p.item ++ items_from false turns (range_after false m at p.what p.item) p.item.at p.rest)
  read_next turns l m at before cs r p t g ate (AsPlain.alike i u a) more =
      let b : List ℕ = before ++ ate.eaten in
      let here : text ≡ b ++ r.rest = t ∙ ap (λ (z : List ℕ). before ++ z) ate.split ∙ sym (append_assoc before ate.eaten r.rest) in
      let there : r.item.at ≡ byte_count b = omega (arith, ate.place, count_append before ate.eaten) in
      subst (λ (j : SoFar). Together text (extent_items true l at r.what r.item ++ items_from true turns (range_after true l at r.what r.item) r.item.at r.rest)
      (extent_items false m at p.what j ++ items_from false turns (range_after false m at p.what j) j.at p.rest)) i
      (subst (λ (v : List ℕ). Together text (extent_items true l at r.what r.item ++ items_from true turns (range_after true l at r.what r.item) r.item.at r.rest)
      (extent_items false m at p.what r.item ++ items_from false turns (range_after false m at p.what r.item) r.item.at v)) u
      (alike_next l m at r.what p.what r.item a (more _ _ b r.rest r.item.at here there)))
  read_next turns l m at before cs r p t g ate (AsPlain.ends w h c rest e o) more =
      let b : List ℕ = before ++ ate.eaten in
      let here : text ≡ b ++ (c ∷ rest) =
      t ∙ ap (λ (z : List ℕ). before ++ z) ate.split ∙ sym (append_assoc before ate.eaten r.rest) ∙ ap (λ (z : List ℕ). (before ++ ate.eaten) ++ z) e in
      let there : r.item.at ≡ byte_count b = omega (arith, ate.place, count_append before ate.eaten) in
      number_next l at r.what r.item _ w h b c rest here there o

  from : (turns : ℕ) (l m : Place) (before cs : List ℕ) (at : ℕ) → text ≡ before ++ cs → at ≡ byte_count before
      → Together text (items_from true turns l at cs) (items_from false turns m at cs)
  unfolding items_from
  from zero l m before cs at t g = ends
  from (suc turns) l m before [] at t g = ends
  from (suc turns) l m before (c ∷ cs) at t g = by_bool (is_blank c)
      (λ b. rw (b, items_from)
      (from turns l m (before ++ (c ∷ [])) cs (at + width c) (t ∙ sym (append_assoc before (c ∷ []) cs)) (omega (arith, count_append before (c ∷ [])))))
      (λ b. rw (b, items_from)
      (read_next turns l m at before (c ∷ cs) (read_item true at c cs) (read_item false at c cs) t g (item_ate true at c cs) (report_plain at c cs)
      (λ x y d u n h k. from turns x y d u n h k)))

  line : (before cs : List ℕ) (at : ℕ) → text ≡ before ++ cs → at ≡ byte_count before → Together text (past_line true at cs) (past_line false at cs)
  unfolding past_line
  line before [] at t g = ends
  line before (c ∷ cs) at t g = by_bool (eqb c (code "\n"))
      (λ e. rw (e, past_line) (from (length (c ∷ cs)) unset unset before (c ∷ cs) at t g))
      (λ e. rw (e, past_line) (line (before ++ (c ∷ [])) cs (at + width c) (t ∙ sym (append_assoc before (c ∷ []) cs)) (omega (arith, count_append before (c ∷ [])))))

pound : (cs : List ℕ) → Together (code "#" ∷ cs) (after_pound true cs) (after_pound false cs)
unfolding after_pound width
pound [] = from (code "#" ∷ []) 1 unset unset [] (code "#" ∷ []) 0 refl refl
pound (d ∷ ds) = by_bool (eqb d (code "!"))
    (λ e. let f : d ≡ code "!" = eqb-true d (code "!") e in rw (f, after_pound) (line (code "#" ∷ code "!" ∷ ds) (code "#" ∷ code "!" ∷ []) ds 2 refl refl))
    (λ e. rw (e, after_pound) (from (code "#" ∷ d ∷ ds) (length (code "#" ∷ d ∷ ds)) unset unset [] (code "#" ∷ d ∷ ds) 0 refl refl))

-- the items of every text
pub read_together : (text : List ℕ) → Together text (items true text) (items false text)
unfolding items
read_together [] = ends
read_together (c ∷ cs) = by_bool (eqb c (code "#"))
    (λ e. let f : c ≡ code "#" = eqb-true c (code "#") e in rw (f, items) (pound cs))
    (λ e. rw (e, items) (from (c ∷ cs) (length (c ∷ cs)) unset unset [] (c ∷ cs) 0 refl refl))
