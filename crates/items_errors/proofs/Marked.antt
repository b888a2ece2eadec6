-- What begins with `#\` is a character, or error 7: no such item sets a range of its own as an escape in quotes does.
use Prim.Native.Nat.{ℕ}
use mathlib.Core.Path.{◌≡◌, refl, sym, ap, subst, ◌∙◌}
use mathlib.Core.Bool.{Bool, true, false}
use mathlib.Core.List.{List, [], ◌∷◌, ◌++◌}
use lib.ListN.{length}
use lib.Dec.{eqb, leb}
use native.Mathlib.Omega.{arith}
use borrow.Author.Tests.{eqb-true}
use Rattle.laws.specs.Quoted.{code, codes}
use Rattle.laws.specs.Texts.{begins, same}
use Rattle.laws.proofs.Choice.{by_bool, no_yes, if_all, if_is, and_true}
use Rattle.chars.specs.Encode.{utf8, bytes_of, spelled}
use Rattle.items.specs.Classes.{first_of, after_hash, in_hash, InHash, skips_two, tick, commas, stops_hash, stays_hash}
use Rattle.items.specs.declared.Outcome.{Outcome}
use Rattle.items.specs.declared.Outcome.TheVariants.{Token, Str, HereStr, Word, Run, Lined, Keyword, Character, Error, ErrorAt}
use Rattle.items.specs.declared.HashKind.{HashKind}
use Rattle.items.specs.declared.HashKind.TheVariants.{Decided, Bracket, Undecided}
use Rattle.items.specs.Readers.{SoFar, Read, so_far, eat, got, bool_kind, quote_kind, form_kind, or_else, hash_kind, hash_bracket, read_word, hash_at, hash_comma}
use Rattle.items.specs.Readers.{hash_on, hash_skip, read_hash, read_item}
use Rattle.items_coverage.proofs.Bytes.{begins_other}
use Rattle.items_coverage.proofs.Extents.{Taken, taken}

abbrev Unset : Outcome → Type 0
Unset (Token k d) = Unit {0}
Unset Str = Unit {0}
Unset HereStr = Unit {0}
Unset Word = Unit {0}
Unset Run = Unit {0}
Unset Lined = Unit {0}
Unset Keyword = Unit {0}
Unset Character = Unit {0}
Unset (Error n d) = Unit {0}
Unset (ErrorAt n d a b) = ⊥

-- decided, or not yet
abbrev Maybe : HashKind → Type 0
Maybe (Decided o) = Unset o
Maybe (Bracket d) = ⊥
Maybe Undecided = Unit {0}

abbrev Sure : HashKind → Type 0
Sure (Decided o) = Unset o
Sure (Bracket d) = ⊥
Sure Undecided = ⊥

abbrev Marked : List ℕ → Type 0
Marked raw = begins (spelled "#\\") raw ≡ true

maybe_bool : (raw : List ℕ) → Maybe (bool_kind raw)
unfolding bool_kind
maybe_bool raw =
    if_all Maybe (same raw (spelled "#true")) tt (if_all Maybe (same raw (spelled "#t")) tt
    (if_all Maybe (same raw (spelled "#false")) tt (if_all Maybe (same raw (spelled "#f")) tt tt)))

maybe_quote : (raw : List ℕ) → Maybe (quote_kind raw)
unfolding quote_kind
maybe_quote raw =
    if_all Maybe (same raw (spelled "#'")) tt (if_all Maybe (same raw (spelled "#`")) tt
    (if_all Maybe (same raw (spelled "#,")) tt (if_all Maybe (same raw (spelled "#,@")) tt tt)))

sure_form : (raw : List ℕ) → Marked raw → Sure (form_kind raw)
unfolding form_kind
sure_form raw h =
    if_all Sure (begins (spelled "#:") raw) tt
    (if_is Sure (begins (spelled "#\\") raw) (λ e. if_all Sure (leb (length raw) 2) tt tt) (λ e. no_yes (sym e ∙ h)))

sure_else : (j k : HashKind) → Maybe j → Sure k → Sure (or_else j k)
sure_else (Decided o) k p q = p
sure_else (Bracket d) k p q = p
sure_else Undecided k p q = q

sure_kind : (raw : List ℕ) → Marked raw → Sure (hash_kind raw)
unfolding hash_kind
sure_kind raw h = sure_else (bool_kind raw) (or_else (quote_kind raw) (form_kind raw)) (maybe_bool raw) (sure_else (quote_kind raw) (form_kind raw) (maybe_quote raw) (sure_form raw h))

begins_more : (p raw more : List ℕ) → begins p raw ≡ true → begins p (raw ++ more) ≡ true
unfolding begins
begins_more [] raw more e = refl
begins_more (x ∷ p) [] more e = no_yes e
begins_more (x ∷ p) (y ∷ raw) more e =
    let g = and_true (eqb x y) (begins p raw) e in rw g.0 (begins_more p raw more g.1)

module _ (report : Bool) where
  abbrev by_kind : HashKind → SoFar → List ℕ → Read
  by_kind k i cs = elim k [ Decided o ↦ got o i cs | Bracket d ↦ hash_bracket report d i cs | Undecided ↦ read_word report i cs ]

  at_kind : (k : HashKind) (i : SoFar) (cs : List ℕ) → Sure k → Unset (by_kind k i cs).what
  at_kind (Decided o) i cs h = h
  at_kind (Bracket d) i cs h = absurd h
  at_kind Undecided i cs h = absurd h

  marked_at : (i : SoFar) (cs : List ℕ) → Marked i.bytes → Unset (hash_at report i cs).what
  unfolding hash_at
  marked_at i cs h = at_kind (hash_kind i.bytes) i cs (sure_kind i.bytes h)

  marked_eat : (i : SoFar) (c : ℕ) → Marked i.bytes → Marked (eat i c).bytes
  marked_eat i c h = begins_more (spelled "#\\") i.bytes (utf8 c) h

  marked_comma : (i : SoFar) (cs : List ℕ) → Marked i.bytes → Unset (hash_comma report i cs).what
  unfolding hash_comma
  marked_comma i [] h = marked_at i [] h
  marked_comma i (c ∷ cs) h = by_bool (eqb c (code "@"))
      (λ e. rw (e, hash_comma, Unset) (marked_at (eat i c) cs (marked_eat i c h)))
      (λ e. rw (e, hash_comma, Unset) (marked_at i (c ∷ cs) h))

  abbrev by_class : InHash → SoFar → ℕ → List ℕ → Read
  by_class k i c cs = elim k [
    | skips_two ↦ hash_skip report (eat i c) cs
    | tick ↦ hash_at report (eat i c) cs
    | commas ↦ hash_comma report (eat i c) cs
    | stops_hash ↦ hash_at report i (c ∷ cs)
    | stays_hash ↦ hash_on report (eat i c) cs
  ]

  marked_on : (cs : List ℕ) (i : SoFar) → Marked i.bytes → Unset (hash_on report i cs).what × Unset (hash_skip report i cs).what
  unfolding hash_on hash_skip
  marked_on [] i h = (marked_at i [] h, marked_at i [] h)
  marked_on (c ∷ cs) i h =
      let next = marked_on cs (eat i c) (marked_eat i c h) in (on_class (in_hash c) next.0 next.1, next.0)
    where
      on_class : (k : InHash) → Unset (hash_on report (eat i c) cs).what → Unset (hash_skip report (eat i c) cs).what
          → Unset (by_class k i c cs).what
      on_class skips_two on skip = skip
      on_class tick on skip = marked_at (eat i c) cs (marked_eat i c h)
      on_class commas on skip = marked_comma (eat i c) cs (marked_eat i c h)
      on_class stops_hash on skip = marked_at i (c ∷ cs) h
      on_class stays_hash on skip = on

  -- after `#` and a backslash
  marked_item : (at : ℕ) (cs : List ℕ) → Unset (read_item report at (code "#") (code "\\" ∷ cs)).what
  unfolding read_item read_hash first_of after_hash hash_on in_hash begins bytes_of utf8
  marked_item at cs = (marked_on cs (eat (eat (so_far [] at) (code "#")) (code "\\")) refl).1

  -- the first two characters of what is marked
  pub record Two (c : ℕ) (more : List ℕ) : Type 0 where
    pub after : List ℕ
    pub hash : c ≡ code "#"
    pub back : more ≡ code "\\" ∷ after

  two : (c : ℕ) (more : List ℕ) → begins (codes "#\\") (bytes_of (c ∷ more)) ≡ true → Two c more
  unfolding begins bytes_of utf8
  two c more e = by_bool (eqb c (code "#"))
      (λ f. let z : c ≡ code "#" = eqb-true c (code "#") f in
      let g : begins (codes "\\") (bytes_of more) ≡ true = subst (λ (n : ℕ). begins (codes "#\\") (bytes_of (n ∷ more)) ≡ true) z e in
      second z more g)
      (λ f. no_yes (sym (begins_other (code "#") (omega arith) c (codes "\\") (bytes_of more) f) ∙ e))
    where
      second : c ≡ code "#" → (m : List ℕ) → begins (codes "\\") (bytes_of m) ≡ true → Two c m
      second z [] g = no_yes g
      second z (d ∷ m) g = by_bool (eqb d (code "\\"))
          (λ f. record { after = m; hash = z; back = ap (λ (n : ℕ). n ∷ m) (eqb-true d (code "\\") f) })
          (λ f. no_yes (sym (begins_other (code "\\") (omega arith) d [] (bytes_of m) f) ∙ g))

-- an item that set a range of its own does not begin with `#\`
pub not_marked : (at c : ℕ) (cs : List ℕ) (n d a b : ℕ) → (read_item true at c cs).what ≡ ErrorAt n d a b
    → begins (codes "#\\") (read_item true at c cs).item.bytes ≡ false
not_marked at c cs n d a b e = by_bool (begins (codes "#\\") (read_item true at c cs).item.bytes)
    (λ f. let k : Taken true at c cs = taken true at c cs in
    let t : Two true c k.more = two true c k.more (ap (begins (codes "#\\")) (sym k.bytes) ∙ f) in
    let z : cs ≡ code "\\" ∷ (t.after ++ (read_item true at c cs).rest) = k.whole ∙ ap (λ (l : List ℕ). l ++ (read_item true at c cs).rest) t.back in
    let u : Unset (read_item true at c cs).what
    = subst (λ (m : ℕ). Unset (read_item true at m cs).what) (sym t.hash)
    (subst (λ (l : List ℕ). Unset (read_item true at (code "#") l).what) (sym z) (marked_item true at (t.after ++ (read_item true at c cs).rest))) in
    absurd (subst Unset e u))
    (λ f. f)
