-- Where an escape's error 11 comes from: after a backslash the bytes end with it, in its digits with what opened these and the digits so far; so an
-- item that is read tells of its digits what `Told` says.
use Prim.Native.Nat.{ℕ, ◌+◌, ◌-◌, ◌≤◌, ◌<◌}
use mathlib.Core.Path.{◌≡◌, refl, sym, ap, subst, ◌∙◌}
use mathlib.Core.Bool.{true, false}
use mathlib.Core.List.{List, [], ◌∷◌, ◌++◌, append_assoc, append-nil}
use lib.ListN.{length, drop, length-append, length-drop}
use lib.Dec.{eqb}
use native.Mathlib.Omega.{arith}
use borrow.Author.Tests.{eqb-true, ne_eqb}
use Rattle.laws.specs.Quoted.{code}
use Rattle.laws.proofs.Choice.{by_bool, no_yes}
use Rattle.chars.specs.Encode.{utf8}
use Rattle.chars.proofs.Width.{utf8-one, width-utf8}
use Rattle.digits.specs.Hex.{hex_value, wrong}
use Rattle.items.specs.Classes.{stops_hex}
use Rattle.items.specs.Readers.{so_far, eat, past_failing, read_item, SoFar}
use Rattle.items.proofs.Every.{Every}
use Rattle.items.proofs.Phases.{Says, knows_of}
use Rattle.items.proofs.Walk.{WalkEnds, WalkSteps, silent, decides, walk_start, walk_read}
use Rattle.items_coverage.proofs.Bytes.{High, Spelt, low, high, spelt}
use Rattle.items_errors.specs.First.{Inner}
use Rattle.items_errors.proofs.Phases.{Stops, Behind, behind_x, behind_u, behind_brace, Quoted, quoted_behind, Digits, Told, EndsWith, Opened}
use Rattle.items_errors.proofs.Phases.{opens, more_opened, opened_rest}

-- a character that does not break digits off has inner bytes
inner_utf8 : (c : ℕ) → stops_hex c ≡ false → Every Inner (utf8 c)
unfolding stops_hex
inner_utf8 c e = go (utf8 c) (spelt c)
  where
    inner_high : (w : List ℕ) → Every High w → Every Inner w
    inner_high [] h = tt
    inner_high (b ∷ w) h = (rw (ne_eqb b (code "\\") (λ z. omega (arith, h.0)), ne_eqb b (code "{") (λ z. omega (arith, h.0))), inner_high w h.1)

    inner_low : Inner c
    inner_low = by_bool (eqb c (code "\\"))
        (λ f. absurd (let z : true ≡ false = subst (λ (n : ℕ). stops_hex n ≡ false) (eqb-true c (code "\\") f) e in no_yes (sym z)))
        (λ f. by_bool (eqb c (code "{"))
        (λ g. absurd (let z : true ≡ false = subst (λ (n : ℕ). stops_hex n ≡ false) (eqb-true c (code "{") g) e in no_yes (sym z)))
        (λ g. rw (f, g)))

    go : (w : List ℕ) → Spelt c w → Every Inner w
    go w (low h) = (inner_low, tt)
    go w (high x u g h) = inner_high (x ∷ u) h

-- ---- what opens an escape

ends_back : (raw : List ℕ) (c : ℕ) → c ≡ code "\\" → EndsWith (raw ++ utf8 c) (code "\\" ∷ [])
ends_back raw c e = (raw, ap (λ (n : ℕ). raw ++ utf8 n) e ∙ ap (λ (l : List ℕ). raw ++ l) (utf8-one (code "\\") (omega arith)))

ends_u : (raw : List ℕ) (c : ℕ) → EndsWith raw (code "\\" ∷ []) → c ≡ code "u" → EndsWith (raw ++ utf8 c) (code "\\" ∷ code "u" ∷ [])
ends_u raw c h e = (
  h.0,
  ap (λ (l : List ℕ). l ++ utf8 c) h.1 ∙ append_assoc h.0 (code "\\" ∷ []) (utf8 c)
      ∙ ap (λ (l : List ℕ). h.0 ++ (code "\\" ∷ l)) (ap utf8 e ∙ utf8-one (code "u") (omega arith)),
)

-- no digits yet after `\u`
opened_u : (raw : List ℕ) → EndsWith raw (code "\\" ∷ code "u" ∷ []) → Opened raw (length raw) (code ";")
opened_u raw h =
    let is : raw ≡ (h.0 ++ (code "\\" ∷ [])) ++ (code "u" ∷ []) = h.1 ∙ sym (append_assoc h.0 (code "\\" ∷ []) (code "u" ∷ [])) in
    record {
      x = h.0 ++ (code "\\" ∷ []);
      k = code "u";
      ds = [];
      ascii = omega arith;
      is = is;
      count = ap length is ∙ length-append (h.0 ++ (code "\\" ∷ [])) (code "u" ∷ []);
      behind = behind_u h.0;
      inner = tt;
    }

-- what is known in a phase of an item that starts at s
abbrev says : ℕ → SoFar → Says
says s i = record {
  nest = λ d. Unit {0};
  closed = λ k. Unit {0};
  escape = λ from. EndsWith i.bytes (code "\\" ∷ []);
  brace = λ from. EndsWith i.bytes (code "\\" ∷ code "u" ∷ []);
  digits = λ closer from m. Opened i.bytes m closer × (closer < 0x80);
  done = Told s i.bytes;
}

over : (s : ℕ) (i : SoFar) → WalkEnds (knows_of (says s i)) i.bytes (Told s i.bytes)
over s i = record {
  word = tt;
  run = tt;
  comment = omega arith;
  unquote = λ _. omega arith;
  here = λ _ _. tt;
  string = λ _. tt;
  lined = λ _ _. tt;
  open_string = omega arith;
  open_lined = omega arith;
  open_nest = λ _ _. omega arith;
  decided = decides i.bytes (Told s i.bytes) (λ k d h _. h) tt (omega arith) (λ e. e);
  done = λ _ h. h;
}

module _ (s : ℕ) (i : SoFar) (c : ℕ) (from_start : i.at ≡ s + length i.bytes) where
  -- digits ds that fail, after the bytes x and k of the item, before the closer c
  failed : (x : List ℕ) (k : ℕ) (ds : List ℕ) (d p : ℕ) → k < 0x80 → c < 0x80 → i.bytes ≡ x ++ k ∷ ds → Behind x k c → Every Inner ds
      → hex_value ds ≡ wrong d p
      → (a : ℕ) → a ≡ s + (length x + 1 + p)
      → (g : Digits s (eat i c).bytes d a (past_failing d a (drop p ds))) × Quoted (eat i c).bytes g.ds (length g.x + 1)
  failed x k ds d p ascii small is behind inner fails a from =
      let all : (eat i c).bytes ≡ x ++ k ∷ (ds ++ utf8 c) = ap (λ (l : List ℕ). l ++ utf8 c) is ∙ append_assoc x (k ∷ ds) (utf8 c) in (
        record {
          x = x;
          k = k;
          ds = ds;
          ys = utf8 c;
          zs = [];
          p = p;
          ascii = ascii;
          stop = subst Stops (sym (utf8-one c small)) (Stops.byte c [] small);
          is = all;
          fails = fails;
          from = from;
          to = ap (past_failing d a) (sym (append-nil (drop p ds)));
        },
        quoted_behind (eat i c).bytes ds inner x k c behind (all ∙ ap (λ (l : List ℕ). x ++ k ∷ (ds ++ l)) (utf8-one c small)),
      )

  -- the digits at the end of the bytes fail at the digit p, before the closer c
  fails_at : (m d p : ℕ) → Opened i.bytes m c → c < 0x80 → hex_value (drop m i.bytes) ≡ wrong d p → p ≤ length (drop m i.bytes)
      → (t : List ℕ) → t ≡ drop p (drop m i.bytes)
      → (g : Digits s (eat i c).bytes d (i.at - length t) (past_failing d (i.at - length t) t)) × Quoted (eat i c).bytes g.ds (length g.x + 1)
  fails_at m d p o small f g t e =
      let r : drop m i.bytes ≡ o.ds = opened_rest i.bytes m c o in
      let at : i.at - length t ≡ s + (length o.x + 1 + p)
      = omega (arith, g, ap length e, length-drop p (drop m i.bytes), ap length r, ap length o.is, length-append o.x (o.k ∷ o.ds)) in
      subst (λ (l : List ℕ). (h : Digits s (eat i c).bytes d (i.at - length t) (past_failing d (i.at - length t) l))
      × Quoted (eat i c).bytes h.ds (length h.x + 1)) (ap (drop p) (sym r) ∙ sym e)
      (failed o.x o.k o.ds d p o.ascii small o.is o.behind o.inner (subst (λ (l : List ℕ). hex_value l ≡ wrong d p) r f) (i.at - length t) at)

  on : WalkSteps true i c (knows_of (says s i)) (knows_of (says s (eat i c))) (Told s i.bytes)
  on = record {
    comment = omega arith;
    splice = λ _ _. omega arith;
    datum = λ _ _. omega arith;
    bracket = λ _ _ _. omega arith;
    unexpected = omega arith;
    opens_nest_holds = λ _ _. tt;
    nest = λ _ _ _ _. tt;
    carries = silent c (says s i) (says s (eat i c));
    ends = λ _ _ _. tt;
    escapes = λ _ _ e. ends_back i.bytes c e;
    solid = λ _ _ n. absurd (omega arith);
    invalid = λ _ _ _ n. absurd (omega arith);
    hex_x = λ _ _ o e. (
      opens i.bytes c (code "x") e (omega arith) (code ";") (subst (λ (l : List ℕ). Behind l (code "x") (code ";")) (sym o.1) (behind_x o.0)),
      omega arith,
    );
    hex_u = λ _ _ o e. ends_u i.bytes c o e;
    braced = λ _ _ o e. (
      opens i.bytes c (code "{") e (omega arith) (code "}") (subst (λ (l : List ℕ). Behind l (code "{") (code "}")) (sym o.1) (behind_brace o.0)),
      omega arith,
    );
    unbraced = λ _ _ o. (opened_u i.bytes o, omega arith);
    digit = λ _ closer _ m o e. (more_opened i.bytes m closer c (inner_utf8 c e) o.0, o.1);
    unclosed = λ _ _ _ _ _ n. absurd (omega arith);
    no_scalar = λ _ _ _ _ _ _ _ n. absurd (omega arith);
    fails = λ _ closer _ m d p o z f _ g n.
        fails_at m d p (subst (Opened i.bytes m) (sym z) o.0) (omega (arith, o.1, z)) f g (drop p (drop m i.bytes)) refl;
  }

pub read_told : (s c : ℕ) (cs : List ℕ) → Told s (read_item true s c cs).item.bytes (read_item true s c cs).what
read_told s c cs =
    walk_read true (λ i. knows_of (says s i)) (λ i. Told s i.bytes) (λ i _. i.at ≡ s + length i.bytes) (λ i _ _. over s i)
    (λ i c _ l. (on s i c l, omega (arith, length-append i.bytes (utf8 c), width-utf8 c))) s c cs
    (walk_start (says s (eat (so_far [] s) c)) c (λ k d h _. h)) (omega (arith, width-utf8 c))
