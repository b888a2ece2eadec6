-- Comments (specs/Comments). A line comment goes to its newline; a nested one is built from its end: a mark that closes, or one that opens and what
-- two comments have behind it, and any character put before them that makes no mark with the next.
use Prim.Native.Nat.{ℕ, zero, suc, ◌-◌}
use mathlib.Core.Path.{◌≡◌, refl, sym, ap, subst, ◌∙◌}
use mathlib.Core.Bool.{Bool, true, false}
use mathlib.Core.List.{List, [], ◌∷◌, ◌++◌, append_assoc, append-nil}
use mathlib.Core.Logic.{◌⊎◌, inl, inr}
use lib.ListN.{get_or, drop}
use lib.Dec.{eqb, leb}
use native.Mathlib.Omega.{arith}
use native.Mathlib.Numerals.{add-one}
use borrow.Author.Tests.{eqb-true, lt-leb}
use Rattle.laws.specs.Quoted.{code, codes}
use Rattle.laws.specs.Texts.{starts}
use Rattle.laws.proofs.Choice.{by_bool, no_yes}
use Rattle.chars.specs.Blank.{is_blank}
use Rattle.chars.specs.Encode.{utf8, bytes_of}
use Rattle.items.specs.declared.Outcome.{Outcome}
use Rattle.items.specs.declared.Outcome.TheVariants.{Error}
use Rattle.items.specs.Classes.{first_of, in_nest, inside, after_hash}
use Rattle.items.specs.Items.{Item, items}
use Rattle.items.specs.Kinds as kind
use Rattle.items.specs.Meaning.{Meaning, means, meaning_of}
use Rattle.items.specs.Readers.{SoFar, so_far, eat, Read, got, comment, read_line, read_nest, after_bar, after_sharp, read_hash, read_item}
use Rattle.items.proofs.Every.{Every}
use Rattle.items.proofs.Cases.{by_nest}
use Rattle.items_r7rs.specs.Comment.{InLine, mark, unmarked, LineEnd, NestedRest, closes, continues, nested}
use Rattle.items_r7rs.specs.Comment as standard
use Rattle.items_r7rs.specs.Reading.{nothing, ReadAs}
use Rattle.items_r7rs.specs.Repeated.{Many, done}
use Rattle.items_r7rs.specs.Repeated as many
use Rattle.items_r7rs.proofs.Back.{begins_chars, same_front}
use Rattle.items_r7rs.proofs.Classes.{not_first}
use Rattle.items_r7rs.proofs.Comment.{line_comment, nested_comment, is_bar, is_sharp}
use Rattle.items_r7rs.proofs.Reading.{eats, eats-whole, read_token}
use Rattle.items_r7rs_words.specs.Comments.{LineRest, text_over, newline, more, CommentRead, line, past_return, CommentIn}
use Rattle.items_r7rs_words.specs.Comments.{Unmarked, StandardRest, Touches, at_close, at_open, inner, later}
use Rattle.items_r7rs_words.specs.Comments as own
use Rattle.items_r7rs_words.proofs.Begun.{CommentBegins}
use Rattle.items_r7rs_words.proofs.Readings.{In, every_in, OneRead, of_reads}
use Rattle.items_r7rs_words.proofs.Words.{known}

-- ---- line comments

-- the rest of a line is read
rest_read : (rest : List ℕ) (i : SoFar) {t : List ℕ} → LineRest rest t → read_line i (t ++ rest) ≡ got comment (eats i t) rest
unfolding read_line
rest_read rest i (text_over e) = rw e
rest_read rest i newline = refl
rest_read rest i (more {c = c} h r) = rw (h, read_line) (rest_read rest (eat i c) r)

-- and what is read is the rest of a line
line_back : (i : SoFar) (cs : List ℕ) → (t : List ℕ) × (cs ≡ t ++ (read_line i cs).rest) × LineRest (read_line i cs).rest t
unfolding read_line
line_back i [] = ([], refl, text_over refl)
line_back i (c ∷ cs) = by_bool (eqb c (code "\n"))
    (λ e. rw (e, read_line) (codes "\n", ap (λ (n : ℕ). n ∷ cs) (eqb-true c (code "\n") e), newline))
    (λ e. rw (e, read_line) (let h = line_back (eat i c) cs in (c ∷ h.0, ap (λ (l : List ℕ). c ∷ l) h.1, more e h.2)))

-- characters of the line before it
line_before : {rest t : List ℕ} {u : List ℕ} → Many InLine u → LineRest rest t → LineRest rest (u ++ t)
line_before done r = r
line_before (many.more {c = c} h m) r = more (not_first (code "\n") (codes "\r") c h) (line_before m r)

-- a line comment's, by the first <return> that is not part of its end
data Lines (rest : List ℕ) : List ℕ → Type 0 where
  ended : (u e : List ℕ) → Many InLine u → LineEnd e rest → Lines rest (u ++ e)
  returned : (u v : List ℕ) → Many InLine u → starts (code "\n") v ≡ false → LineRest rest v → Lines rest (u ++ (code "\r" ∷ v))

one_before : {rest t : List ℕ} (c : ℕ) → InLine c → Lines rest t → Lines rest (c ∷ t)
one_before c h (ended u e m k) = ended (c ∷ u) e (many.more h m) k
one_before c h (returned u v m f r) = returned (c ∷ u) v (many.more h m) f r

-- a newline at once
at_newline : {rest t : List ℕ} → LineRest rest t → starts (code "\n") t ≡ true → Lines rest (code "\r" ∷ t)
unfolding starts
at_newline (text_over e) h = no_yes h
at_newline newline h = ended [] (codes "\r\n") done standard.return_newline
at_newline (more f r) h = no_yes (sym f ∙ h)

lines : {rest t : List ℕ} → LineRest rest t → Lines rest t
lines {rest} (text_over e) = ended [] [] done (subst (LineEnd []) (sym e) standard.at_end_case)
lines newline = ended [] (codes "\n") done standard.newline
lines {rest} (more {c = c} {t = t} h r) = by_bool (eqb c (code "\r"))
    (λ e. subst (λ (n : ℕ). Lines rest (n ∷ t)) (sym (eqb-true c (code "\r") e))
    (by_bool (starts (code "\n") t) (λ f. at_newline r f) (λ f. returned [] t done f r)))
    (λ e. one_before c (rw (h, e)) (lines r))

line_read : {rest t : List ℕ} → Lines rest t → CommentRead rest (code ";" ∷ t)
line_read (ended u e m k) = line (code ";" ∷ u) e (standard.line m) k
line_read (returned u v m f r) = past_return (code ";" ∷ u) v (standard.line m) f r

-- ---- nested comments

-- whether a character makes a mark with the first of some
abbrev touching : ℕ → List ℕ → Bool
touching c [] = false
touching c (d ∷ t) = mark c d

before : (c : ℕ) {r : List ℕ} → NestedRest r → touching c r ≡ false → NestedRest (c ∷ r)
before c (closes [] h) e = closes (c ∷ []) (rw e)
before c (closes (x ∷ t) h) e = closes (c ∷ x ∷ t) (rw e h)
before c (continues [] n r h j k) e = continues (c ∷ []) n r (rw e) j k
before c (continues (x ∷ t) n r h j k) e = continues (c ∷ x ∷ t) n r (rw e h) j k

front : (c : ℕ) (u : List ℕ) {r : List ℕ} → NestedRest r → touching c (r ++ u) ≡ false → touching c r ≡ false
front c u (closes [] h) e = e
front c u (closes (x ∷ t) h) e = e
front c u (continues [] n r h j k) e = e
front c u (continues (x ∷ t) n r h j k) e = e

-- what follows so many #|, up to the end of the outermost
data Deep : ℕ → List ℕ → Type 0 where
  out : Deep zero []
  one : {n : ℕ} (r : List ℕ) {u : List ℕ} → NestedRest r → Deep n u → Deep (suc n) (r ++ u)

deep_before : (c : ℕ) {n : ℕ} {t : List ℕ} → Deep (suc n) t → touching c t ≡ false → Deep (suc n) (c ∷ t)
deep_before c (one r {u = u} h d) e = one (c ∷ r) (before c h (front c u h e)) d

deep_close : {n : ℕ} {t : List ℕ} → Deep n t → Deep (suc n) (codes "|#" ++ t)
deep_close d = one (codes "|#") (closes [] refl) d

deep_open : {n : ℕ} {t : List ℕ} → Deep (suc (suc n)) t → Deep (suc n) (codes "#|" ++ t)
deep_open {n} (one r h (one q {u = u} k d)) =
    subst (λ (l : List ℕ). Deep (suc n) (codes "#|" ++ l)) (append_assoc r q u) (one (codes "#|" ++ (r ++ q)) (continues [] r q refl h k) d)

deep_one : {t : List ℕ} → Deep 1 t → NestedRest t
deep_one (one r h out) = subst NestedRest (sym (append-nil r)) h

no_bar : (c : ℕ) → in_nest c ≡ inside → eqb c (code "|") ≡ false
unfolding in_nest
no_bar c h = by_bool (eqb c (code "|")) (λ e. let z = rw e at h in cc) (λ e. e)

no_sharp : (c : ℕ) → in_nest c ≡ inside → eqb c (code "#") ≡ false
unfolding in_nest
no_sharp c h = by_bool (eqb c (code "#")) (λ e. let z = rw (no_bar c h, e) at h in cc) (λ e. e)

inside_apart : (c : ℕ) → in_nest c ≡ inside → (t : List ℕ) → touching c t ≡ false
inside_apart c h [] = refl
inside_apart c h (d ∷ t) = rw (no_bar c h, no_sharp c h)

-- so many #| deep, with the characters p read that may be half a mark: what is taken closes them all, or the text ends first
abbrev Closes : ℕ → List ℕ → List ℕ → List ℕ → Outcome → Type 0
Closes n p cs rest what = ((t : List ℕ) × (cs ≡ t ++ rest) × Deep (suc n) (p ++ t)) ⊎ (what ≡ Error kind.IncompleteComment 0)

put : {n m : ℕ} (c : ℕ) (p q : List ℕ) {cs rest : List ℕ} {what : Outcome} → ((t : List ℕ) → Deep (suc m) (q ++ t) → Deep (suc n) (p ++ (c ∷ t)))
    → Closes m q cs rest what → Closes n p (c ∷ cs) rest what
put c p q f (inl b) = inl (c ∷ b.0, ap (λ (l : List ℕ). c ∷ l) b.1, f b.0 b.2)
put c p q f (inr e) = inr e

abbrev Back : ℕ → List ℕ → List ℕ → Read → Type 0
Back n p cs r = Closes n p cs r.rest r.what

-- a mark that closes, and what follows where it was not the outermost's
bar_closed : (n : ℕ) (i : SoFar) (c : ℕ) (cs : List ℕ) → c ≡ code "#" → ((m : ℕ) → Back m [] cs (read_nest (suc m) i cs))
    → Back n (codes "|") (c ∷ cs) (elim (leb (suc n) 1) [ true ↦ got comment i cs | false ↦ read_nest (suc n - 1) i cs ])
bar_closed zero i c cs e again = inl (c ∷ [], refl, subst (λ (x : ℕ). Deep 1 (code "|" ∷ x ∷ [])) (sym e) (deep_close out))
bar_closed (suc n) i c cs e again =
    let below : suc (suc n) - 1 ≡ suc n = omega arith in
    rw (lt-leb (suc (suc n)) 1 (omega arith), below)
    (put c (codes "|") [] (λ t d. subst (λ (x : ℕ). Deep (suc (suc n)) (code "|" ∷ x ∷ t)) (sym e) (deep_close d)) (again n))

mutual
  unfolding read_nest

  nest_back : (n : ℕ) (i : SoFar) (cs : List ℕ) → Back n [] cs (read_nest (suc n) i cs)
  nest_back n i [] = inr refl
  nest_back n i (c ∷ cs) = by_nest (in_nest c)
      (λ e. rw (e, read_nest) (put c [] (codes "|") (λ t d. subst (λ (x : ℕ). Deep (suc n) (x ∷ t)) (sym (is_bar c e)) d) (bar_back n (eat i c) cs)))
      (λ e. rw (e, read_nest) (put c [] (codes "#") (λ t d. subst (λ (x : ℕ). Deep (suc n) (x ∷ t)) (sym (is_sharp c e)) d) (sharp_back n (eat i c) cs)))
      (λ e. rw (e, read_nest) (put c [] [] (λ t d. deep_before c d (inside_apart c e t)) (nest_back n (eat i c) cs)))

  bar_back : (n : ℕ) (i : SoFar) (cs : List ℕ) → Back n (codes "|") cs (after_bar (suc n) i cs)
  bar_back n i [] = inr refl
  bar_back n i (c ∷ cs) = by_nest (in_nest c)
      (λ e. rw (e, after_bar) (put c (codes "|") (codes "|") (λ t d. subst (λ (x : ℕ). Deep (suc n) (code "|" ∷ x ∷ t)) (sym (is_bar c e)) (deep_before (code "|") d refl)) (bar_back n (eat i c) cs)))
      (λ e. rw (e, after_bar) (bar_closed n (eat i c) c cs (is_sharp c e) (λ m. nest_back m (eat i c) cs)))
      (λ e. rw (e, after_bar) (put c (codes "|") [] (λ t d. deep_before (code "|") (deep_before c d (inside_apart c e t)) (rw (no_sharp c e))) (nest_back n (eat i c) cs)))

  sharp_back : (n : ℕ) (i : SoFar) (cs : List ℕ) → Back n (codes "#") cs (after_sharp (suc n) i cs)
  sharp_back n i [] = inr refl
  sharp_back n i (c ∷ cs) = by_nest (in_nest c)
      (λ e. rw (e, after_sharp) (rw (add-one (suc n)) (put c (codes "#") []
      (λ t d. subst (λ (x : ℕ). Deep (suc n) (code "#" ∷ x ∷ t)) (sym (is_bar c e)) (deep_open d)) (nest_back (suc n) (eat i c) cs))))
      (λ e. rw (e, after_sharp) (put c (codes "#") (codes "#") (λ t d. subst (λ (x : ℕ). Deep (suc n) (code "#" ∷ x ∷ t)) (sym (is_sharp c e))
      (deep_before (code "#") d refl)) (sharp_back n (eat i c) cs)))
      (λ e. rw (e, after_sharp) (put c (codes "#") [] (λ t d. deep_before (code "#") (deep_before c d (inside_apart c e t)) (rw (no_bar c e))) (nest_back n (eat i c) cs)))

-- ---- every comment

-- EXACTLY THESE TEXTS ARE COMMENTS: each is read as one, wherever it stands and in both modes.
pub comment_read : (report : Bool) (rest : List ℕ) {t : List ℕ} → CommentRead rest t → ReadAs report t rest kind.Comment 0 nothing
unfolding is_blank read_item first_of
comment_read report rest (line t e l k) = line_comment report rest l k
comment_read report rest (past_return _ u (standard.line {t = t} m) f r) =
    read_token report (code ";") (t ++ (code "\r" ∷ u)) rest kind.Comment 0 refl refl
    (λ at. rest_read rest _ (line_before m (more refl r)) ∙ ap (λ (i : SoFar). got comment i rest) (eats-whole at (code ";" ∷ t ++ (code "\r" ∷ u))))
comment_read report rest (own.nested n) = nested_comment report rest n

module _ (report : Bool) (at end : ℕ) (what : Outcome) (rest raw : List ℕ) where
  line_item : (t : List ℕ) → read_item report at (code ";") (t ++ rest) ≡ got what (so_far raw end) rest → CommentRead rest (code ";" ∷ t)
  unfolding read_item first_of
  line_item t e =
      let i : SoFar = eat (so_far [] at) (code ";") in
      let h = line_back i (t ++ rest) in
      let left : (read_line i (t ++ rest)).rest ≡ rest = ap (λ (r : Read). r.rest) e in
      let all : t ≡ h.0 = same_front t h.0 rest (h.1 ∙ ap (λ (l : List ℕ). h.0 ++ l) left) in
      line_read (lines (subst (λ (l : List ℕ). LineRest rest l) (sym all) (subst (λ (l : List ℕ). LineRest l h.0) left h.2)))

  nested_item : (t : List ℕ) → (what ≡ Error kind.IncompleteComment 0 → ⊥) → read_item report at (code "#") (code "|" ∷ t ++ rest) ≡ got what (so_far raw end) rest
      → CommentRead rest (codes "#|" ++ t)
  unfolding read_item first_of read_hash after_hash
  nested_item t well e = go (nest_back 0 i (t ++ rest))
    where
      i : SoFar
      i = eats (so_far [] at) (codes "#|")

      go : Back 0 [] (t ++ rest) (read_nest 1 i (t ++ rest)) → CommentRead rest (codes "#|" ++ t)
      go (inr f) = absurd (well (sym (ap (λ (r : Read). r.what) e) ∙ f))
      go (inl h) =
          let all : t ≡ h.0 = same_front t h.0 rest (h.1 ∙ ap (λ (l : List ℕ). h.0 ++ l) (ap (λ (r : Read). r.rest) e)) in
          own.nested (nested (subst NestedRest (sym all) (deep_one h.2)))

module _ {report : Bool} {text : List ℕ} (i : Item) (z : OneRead report text i) (k : eqb i.kind kind.Comment ≡ true) where
  -- what is read as it was is one
  abbrev ReadSo : List ℕ → Type 0
  ReadSo t =
      read_item report i.start (get_or t 0 0) (drop 1 t ++ z.rest) ≡ got z.what (so_far (bytes_of (z.first ∷ z.more)) i.end) z.rest
      → CommentRead z.rest t

  -- a comment's reading is no error
  well : z.what ≡ Error kind.IncompleteComment 0 → ⊥
  well e =
      no_yes (sym (every_in (λ (m : Meaning). eqb m.kind kind.Comment ≡ false) (refl, tt)
      (subst (λ (o : Outcome). In (means i.kind i.detail i.text) (meaning_of report o i.start i.end (bytes_of (z.first ∷ z.more)))) e z.meant)) ∙ k)

  is_comment : CommentBegins (bytes_of (z.first ∷ z.more)) → CommentRead z.rest (z.first ∷ z.more)
  unfolding bytes_of utf8
  is_comment (inl h) =
      let r = begins_chars (codes ";") (z.first ∷ z.more) refl h in
      subst ReadSo (sym r.1) (line_item report i.start i.end z.what z.rest (bytes_of (z.first ∷ z.more)) r.0) z.read
  is_comment (inr h) =
      let r = begins_chars (codes "#|") (z.first ∷ z.more) refl h in
      subst ReadSo (sym r.1) (nested_item report i.start i.end z.what z.rest (bytes_of (z.first ∷ z.more)) r.0 well) z.read

-- AND NO OTHERS: every item of kind Comment, of every text in both modes, is one of them.
pub comment_items : (report : Bool) (cs : List ℕ) → Every (CommentIn (bytes_of cs)) (items report cs)
comment_items report cs =
    of_reads report cs (CommentIn (bytes_of cs)) (λ i z k. (z.first ∷ z.more, z.rest, z.bytes, z.left, is_comment i z k ((known z).comment k)))

-- ---- the standard's nested comments

-- a text that has no mark, before a character c with which it has one
touched : (b : ℕ) (t : List ℕ) (c : ℕ) → unmarked b t ≡ true → unmarked b (t ++ (c ∷ [])) ≡ false
    → ((mark b c ≡ true) × (t ≡ [])) ⊎ ((u : List ℕ) × (d : ℕ) × (t ≡ u ++ (d ∷ [])) × (mark d c ≡ true))
touched b [] c h e = by_bool (mark b c) (λ f. inl (f, refl)) (λ f. no_yes (sym (rw f at e)))
touched b (d ∷ t) c h e = by_bool (mark b d) (λ g. no_yes (rw g at h)) (λ g. go (touched d t c (rw g at h) (rw g at e)))
  where
    go : ((mark d c ≡ true) × (t ≡ [])) ⊎ ((u : List ℕ) × (x : ℕ) × (t ≡ u ++ (x ∷ [])) × (mark x c ≡ true))
        → ((mark b c ≡ true) × (d ∷ t ≡ [])) ⊎ ((u : List ℕ) × (x : ℕ) × (d ∷ t ≡ u ++ (x ∷ [])) × (mark x c ≡ true))
    go (inl f) = inr ([], d, ap (λ (l : List ℕ). d ∷ l) f.1, f.0)
    go (inr f) = inr (d ∷ f.0, f.1, ap (λ (l : List ℕ). d ∷ l) f.2, f.3)

-- it ends in the mark's first half
ends_in : (t : List ℕ) (c d : ℕ) → mark (code " ") c ≡ false → ((x : ℕ) → mark x c ≡ true → x ≡ d) → Unmarked t → unmarked (code " ") (t ++ (c ∷ [])) ≡ false
    → (u : List ℕ) × (t ≡ u ++ (d ∷ []))
ends_in t c d s f h e = go (touched (code " ") t c h e)
  where
    go : ((mark (code " ") c ≡ true) × (t ≡ [])) ⊎ ((u : List ℕ) × (x : ℕ) × (t ≡ u ++ (x ∷ [])) × (mark x c ≡ true)) → (u : List ℕ) × (t ≡ u ++ (d ∷ []))
    go (inl g) = no_yes (sym s ∙ g.0)
    go (inr g) = (g.0, g.2 ∙ ap (λ (x : ℕ). g.0 ++ (x ∷ [])) (f g.1 g.3))

before_bar : (x : ℕ) → mark x (code "|") ≡ true → x ≡ code "#"
before_bar x h = by_bool (eqb x (code "#")) (λ e. eqb-true x (code "#") e) (λ e. by_bool (eqb x (code "|")) (λ f. no_yes (rw (e, f) at h)) (λ f. no_yes (rw (e, f) at h)))

before_sharp : (x : ℕ) → mark x (code "#") ≡ true → x ≡ code "|"
before_sharp x h = by_bool (eqb x (code "|")) (λ e. eqb-true x (code "|") e) (λ e. by_bool (eqb x (code "#")) (λ f. no_yes (rw (e, f) at h)) (λ f. no_yes (rw (e, f) at h)))

-- A <nested comment> OF THE STANDARD is one here, or meets B46.
pub nested_or_touching : {t : List ℕ} → StandardRest t → NestedRest t ⊎ Touches t
nested_or_touching (own.closes t h) =
    by_bool (unmarked (code " ") (t ++ codes "|"))
    (λ e. inl (closes t e))
    (λ e. let r = ends_in t (code "|") (code "#") refl before_bar h e in
    inr (subst Touches (sym (append_assoc r.0 (codes "#") (codes "|#")) ∙ ap (λ (l : List ℕ). l ++ codes "|#") (sym r.1)) (at_close r.0 (subst Unmarked r.1 h))))
nested_or_touching (own.continues t n r h j k) =
    by_bool (unmarked (code " ") (t ++ codes "#"))
    (λ e. go e (nested_or_touching j) (nested_or_touching k))
    (λ e. let q = ends_in t (code "#") (code "|") refl before_sharp h e in
    inr (subst Touches (sym (append_assoc q.0 (codes "|") (codes "#|" ++ (n ++ r))) ∙ ap (λ (l : List ℕ). l ++ (codes "#|" ++ (n ++ r))) (sym q.1))
    (at_open q.0 n r (subst Unmarked q.1 h) j k)))
  where
    go : unmarked (code " ") (t ++ codes "#") ≡ true → NestedRest n ⊎ Touches n → NestedRest r ⊎ Touches r
        → NestedRest (t ++ (codes "#|" ++ (n ++ r))) ⊎ Touches (t ++ (codes "#|" ++ (n ++ r)))
    go e (inl a) (inl b) = inl (continues t n r e a b)
    go e (inl a) (inr b) = inr (later t n r h j b)
    go e (inr a) b = inr (inner t n r h a k)

unmarked_front : (b : ℕ) (t u : List ℕ) → unmarked b (t ++ u) ≡ true → unmarked b t ≡ true
unmarked_front b [] u h = refl
unmarked_front b (d ∷ t) u h = by_bool (mark b d) (λ e. no_yes (rw e at h)) (λ e. rw e (unmarked_front d t u (rw e at h)))

-- and one here is one of the standard's
pub nested_standard : {t : List ℕ} → NestedRest t → StandardRest t
nested_standard (closes t h) = own.closes t (unmarked_front (code " ") t (codes "|") h)
nested_standard (continues t n r h j k) = own.continues t n r (unmarked_front (code " ") t (codes "#") h) (nested_standard j) (nested_standard k)
