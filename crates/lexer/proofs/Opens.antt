-- Where reading starts, the items of the definition start; and the refusals of opening are those of the whole-text call.
use Rattle.std.proofs.Common.{None, Option, Some, Err}
use Rattle.refusal.specs.Refusals as refusal
use Rattle.chars.specs.Utf8.{chars, first_bad, front, placed}
use Rattle.chars.specs.Encode.{width}
use Rattle.chars.specs.declared.Decoded.{Decoded}
use Rattle.chars.specs.declared.Decoded.TheVariants as decoded
use Rattle.chars.proofs.Chars.{CharAt, nothing_at}
use Rattle.laws.specs.Quoted.{code}
use Rattle.laws.proofs.Choice.{by_bool, impossible}
use Rattle.items.specs.Items.{Item, unset, items_from, items_at, past_line, after_pound, items, kept, byte_count}
use Rattle.items.specs.Whole.{call, limit, is_mode, in_report, items_in, deliver, if_good, read_of}
use Rattle.items.specs.Whole as whole
use Rattle.items.proofs.Order.{items_count, items_memory}
use Rattle.items.proofs.Skipped.{kept_count, kept_memory}
use Rattle.lexer.specs.Opening.{line_end, after_hash, start_of, opening, opened, refused, opening_of, if_utf8, open_of}
use Rattle.lexer.specs.Answers.{answer_of, read_error}
use Rattle.lexer.specs.declared.OpenError.{OpenError}
use Rattle.lexer.specs.declared.OpenError.TheVariants.{NoMode, TooLong, NotUtf8}
use Rattle.lexer.specs.Reading.{all_items}
use Rattle.lexer.specs.Inner.{Few}
use Rattle.lexer.specs.declared.Position.{Position}
use Rattle.lexer.proofs.CharacterAt.{Here, char_here, char_found, room}
use Rattle.lexer.proofs.Turns.{items_on}
use Rattle.lexer.proofs.AllItems.{all_read}
use Prim.Native.Nat.{ℕ, ◌+◌, ◌≤◌, ◌<◌}
use mathlib.Core.Path.{◌≡◌, refl, sym, ap, ◌∙◌, subst}
use mathlib.Core.Bool.{Bool, true, false}
use mathlib.Core.List.{List, [], ◌∷◌}
use lib.ListN.{length, drop}
use lib.Dec.{eqb, ltb}
use native.Mathlib.Omega.{arith}
use borrow.Author.Tests.{eqb-true, ltb-false, lt-ltb, le-ltb}

-- ---- the first line, a character at a time

module _ (s : List ℕ) (at : ℕ) where
  module _ (c next : ℕ) (found : decoded.Char c next ≡ placed at (front (drop at s))) where
    pub line_stop : eqb c (code "\n") ≡ true → at ≡ line_end at (chars (drop at s))
    unfolding line_end
    line_stop b = sym (ap (line_end at) (char_found s at c next found).first ∙ rw b)

    pub line_on : eqb c (code "\n") ≡ false → line_end at (chars (drop at s)) ≡ line_end next (chars (drop next s))
    unfolding line_end
    line_on b =
        let k : CharAt s at c next = char_found s at c next found in
        ap (line_end at) k.first ∙ rw b (ap (λ (x : ℕ). line_end x (chars (drop next s))) (sym k.on))

    pub bang : c ≡ code "!" → at ≡ 1 → line_end next (chars (drop next s)) ≡ after_hash (chars (drop at s))
    unfolding after_hash width
    bang e h =
        let k : CharAt s at c next = char_found s at c next found in
        let w : next ≡ 2 = k.on ∙ ap (λ (x : ℕ). at + width x) e ∙ ap (λ (x : ℕ). x + 1) h in
        ap (λ (x : ℕ). line_end x (chars (drop next s))) w ∙ sym (ap after_hash k.first ∙ ap (λ (x : ℕ). after_hash (x ∷ chars (drop next s))) e)

    pub no_bang : eqb c (code "!") ≡ false → 0 ≡ after_hash (chars (drop at s))
    unfolding after_hash
    no_bang b = sym (ap after_hash (char_found s at c next found).first ∙ rw b)

  module _ (o : Decoded) (e : o ≡ placed at (front (drop at s))) (h : (c n : ℕ) → o ≡ decoded.Char c n → ⊥) where
    pub line_none : at ≡ line_end at (chars (drop at s))
    unfolding line_end
    line_none = sym (ap (line_end at) (nothing_at s at o e h))

    pub hash_none : 0 ≡ after_hash (chars (drop at s))
    unfolding after_hash
    hash_none = sym (ap after_hash (nothing_at s at o e h))

module _ (s : List ℕ) where
  pub hash_at : (c next : ℕ) → decoded.Char c next ≡ placed 0 (front s) → c ≡ code "#" → (next ≡ 1) × (after_hash (chars (drop next s)) ≡ start_of (chars s))
  unfolding start_of width
  hash_at c next f e =
      let k : CharAt s 0 c next = char_found s 0 c next f in
      (k.on ∙ ap (λ (x : ℕ). 0 + width x) e, sym (ap start_of k.first ∙ ap (λ (x : ℕ). start_of (x ∷ chars (drop next s))) e))

  pub no_hash : (c next : ℕ) → decoded.Char c next ≡ placed 0 (front s) → eqb c (code "#") ≡ false → 0 ≡ start_of (chars s)
  unfolding start_of
  no_hash c next f b = sym (ap start_of (char_found s 0 c next f).first ∙ rw b)

  pub no_start : (o : Decoded) → o ≡ placed 0 (front s) → ((c n : ℕ) → o ≡ decoded.Char c n → ⊥) → 0 ≡ start_of (chars s)
  unfolding start_of
  no_start o e h = sym (ap start_of (nothing_at s 0 o e h))

-- ---- the items start there

module _ (s : List ℕ) (report : Bool) where
  -- from a place on
  abbrev from : ℕ → List Item
  from at = items_on report unset at (chars (drop at s))

  line_items : (cs : List ℕ) (at : ℕ) → cs ≡ chars (drop at s) → past_line report at cs ≡ from (line_end at cs)
  unfolding past_line line_end items_from
  line_items [] at e = sym (ap (λ (l : List ℕ). items_on report unset at l) (sym e))
  line_items (c ∷ cs) at e =
      by_bool (eqb c (code "\n"))
      (λ b. rw (b, past_line) (ap (λ (l : List ℕ). items_on report unset at l) e))
      (λ b. let k : Here s at c cs = char_here s at c cs (sym e) in
      rw (b, past_line) (line_items cs (at + width c) k.rest))

  zero_items : (cs : List ℕ) → cs ≡ chars s → items_at report 0 cs ≡ from 0
  zero_items cs e = ap (λ (l : List ℕ). items_on report unset 0 l) e

  pound_items : (c : ℕ) (cs : List ℕ) → c ∷ cs ≡ chars s → c ≡ code "#" → after_pound report cs ≡ from (after_hash cs)
  unfolding after_pound after_hash width
  pound_items c [] e h = zero_items (code "#" ∷ []) (ap (λ (x : ℕ). x ∷ []) (sym h) ∙ e)
  pound_items c (d ∷ cs) e h =
      let k : Here s 0 c (d ∷ cs) = char_here s 0 c (d ∷ cs) (sym e) in
      by_bool (eqb d (code "!"))
      (λ b. let l : Here s (0 + width c) d cs = char_here s (0 + width c) d cs (sym k.rest) in
      let w : 0 + width c + width d ≡ 2 = ap (λ (x : ℕ). 0 + width x + width d) h ∙ ap (λ (x : ℕ). 1 + width x) (eqb-true d (code "!") b) in
      rw (b, after_pound) (line_items cs 2 (l.rest ∙ ap (λ (x : ℕ). chars (drop x s)) w)))
      (λ b. rw (b, after_pound) (zero_items (code "#" ∷ d ∷ cs) (ap (λ (x : ℕ). x ∷ d ∷ cs) (sym h) ∙ e)))

  start_items : (cs : List ℕ) → cs ≡ chars s → items report cs ≡ from (start_of cs)
  unfolding items start_of items_from
  start_items [] e = zero_items [] e
  start_items (c ∷ cs) e =
      by_bool (eqb c (code "#"))
      (λ b. rw (b, items) (pound_items c cs e (eqb-true c (code "#") b)))
      (λ b. rw (b, items) (zero_items (c ∷ cs) e))

-- reading all items of a source from its start on gives the items of the definition, comments kept or not
pub reads_all : (s : List ℕ) (report skip : Bool) → all_items s (opening s report skip).spot ≡ kept skip (items report (chars s))
reads_all s report skip = all_read s (opening s report skip).spot refl ∙ ap (kept skip) (sym (start_items s report (chars s) refl))

-- they are no more than its bytes, nor are their decoded texts
pub few_items : (s : List ℕ) (report skip : Bool) → Few s (kept skip (items report (chars s)))
few_items s report skip =
    let is : List Item = items report (chars s) in
    let r : 0 + byte_count (chars s) ≤ length s = room s (chars s) 0 (omega arith) refl in (
      omega (arith, kept_count skip is, items_count report (chars s)),
      omega (arith, kept_memory skip is, items_memory report (chars s)),
    )

-- ---- the whole-text call by what opening says

module _ (s : List ℕ) (mode : ℕ) (skip : Bool) (recs text : List ℕ) where
  -- the text is good, and its items are delivered
  abbrev Delivers : Position → Type 0
  Delivers p = (length s ≤ limit) × Few s (all_items s p.spot) × (first_bad s ≡ None) × (read_of s mode skip recs text ≡ deliver (all_items s p.spot) recs text)

  pub read_opened : (p : Position) → opened p ≡ open_of s mode skip → Delivers p
  unfolding open_of read_of
  read_opened p e = by_bool (is_mode mode)
      (λ m. by_bool (ltb limit (length s))
      (λ l. let z : opened p ≡ refused refusal.over_long limit = rw (m, l) at e in impossible cc)
      (λ l. good m l (first_bad s) refl (rw (m, l) at e)))
      (λ m. let z : opened p ≡ refused refusal.no_such_mode mode = rw m at e in impossible cc)
    where
      good : is_mode mode ≡ true → ltb limit (length s) ≡ false → (u : Option ℕ) → first_bad s ≡ u → opened p ≡ if_utf8 (first_bad s) (opening s (in_report mode) skip)
          → Delivers p
      good m l None f h =
          let z : opened p ≡ opened (opening s (in_report mode) skip) = h ∙ ap (λ (u : Option ℕ). if_utf8 u (opening s (in_report mode) skip)) f in
          let q : p ≡ opening s (in_report mode) skip = cc in
          let a : all_items s p.spot ≡ items_in s mode skip = ap (λ (x : Position). all_items s x.spot) q ∙ reads_all s (in_report mode) skip in
          (ltb-false limit (length s) l, subst (Few s) (sym a) (few_items s (in_report mode) skip), f, rw (m, l, f) (ap (λ (i : List Item). deliver i recs text) (sym a)))
      good m l (Some at) f h =
          let z : opened p ≡ refused refusal.not_utf8 at = h ∙ ap (λ (u : Option ℕ). if_utf8 u (opening s (in_report mode) skip)) f in
          impossible cc

  pub read_refused : (n v : ℕ) → refused n v ≡ open_of s mode skip → call (whole.refused n v 0) recs text ≡ read_of s mode skip recs text
  unfolding open_of read_of
  read_refused n v e = by_bool (is_mode mode)
      (λ m. by_bool (ltb limit (length s))
      (λ l. rw (m, l) (same refusal.over_long limit (rw (m, l) at e)))
      (λ l. rw (m, l) (bad (first_bad s) (rw (m, l) at e))))
      (λ m. rw m (same refusal.no_such_mode mode (rw m at e)))
    where
      same : (a b : ℕ) → refused n v ≡ refused a b → call (whole.refused n v 0) recs text ≡ call (whole.refused a b 0) recs text
      same a b h = let x : n ≡ a = cc in let y : v ≡ b = cc in ap (λ (k : ℕ). call (whole.refused k v 0) recs text) x ∙ ap (λ (k : ℕ). call (whole.refused a k 0) recs text) y

      bad : (u : Option ℕ) → refused n v ≡ if_utf8 u (opening s (in_report mode) skip) → call (whole.refused n v 0) recs text ≡ if_good u (deliver (items_in s mode skip) recs text) recs text
      bad None h = impossible cc
      bad (Some at) h = same refusal.not_utf8 at h

  -- the error that the call makes of the one that opening gave
  pub read_fails : (e : OpenError) → opening_of (Err e) ≡ open_of s mode skip → call (answer_of (Err (read_error e))) recs text ≡ read_of s mode skip recs text
  read_fails (NoMode m) h = read_refused refusal.no_such_mode m h
  read_fails TooLong h = read_refused refusal.over_long limit h
  read_fails (NotUtf8 at) h = read_refused refusal.not_utf8 at h

-- ---- opening, by the tests of the code

module _ (s : List ℕ) (mode : ℕ) (skip : Bool) where
  pub open_mode : 1 < mode → refused refusal.no_such_mode mode ≡ open_of s mode skip
  unfolding open_of
  open_mode h = rw (le-ltb mode 2 (omega arith))

  module _ (m : mode ≤ 1) where
    pub open_long : limit < length s → refused refusal.over_long limit ≡ open_of s mode skip
    unfolding open_of
    open_long h = rw (lt-ltb mode 2 (omega arith), lt-ltb limit (length s) h)

    pub open_utf8 : length s ≤ limit → (u : Option ℕ) → u ≡ first_bad s → if_utf8 u (opening s (in_report mode) skip) ≡ open_of s mode skip
    unfolding open_of
    open_utf8 h u e = rw (lt-ltb mode 2 (omega arith), le-ltb limit (length s) h) (ap (λ (x : Option ℕ). if_utf8 x (opening s (in_report mode) skip)) e)
