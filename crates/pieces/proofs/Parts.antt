-- A character begun: which bytes of it were taken, that its numbers stay within their bounds, and that the bytes of a character that
-- became whole are its encoding.
use Rattle.chars.specs.declared.Begun.{Begun}
use Rattle.chars.specs.declared.Step.{Step}
use Rattle.chars.specs.declared.Step.TheVariants as steps
use Rattle.chars.specs.declared.Decoded.TheVariants as decoded
use Rattle.laws.specs.Quoted.{within}
use Rattle.chars.specs.Utf8.{ascii, first}
use Rattle.chars.specs.Encode.{is_scalar, utf8, width}
use Rattle.chars.specs.Machine.{step, start, told, reads}
use Rattle.chars.proofs.Agree.{reads-front}
use Rattle.chars.proofs.Chars.{CharAt, char_at}
use Rattle.chars.proofs.Table.{within_above}
use Rattle.std.specs.Prelude.{if◌then◌else◌}
use Rattle.laws.proofs.Choice.{by_bool, if_is, within_is}
use Rattle.pieces.specs.declared.Part.{Part}
use Rattle.pieces.specs.Bounds.{part_bounds}
use Prim.Native.Nat.{ℕ, zero, suc, ◌+◌, ◌-◌, ◌*◌, ◌^◌, ◌%◌, ◌≤◌, ◌<◌}
use mathlib.Core.Path.{◌≡◌, refl, sym, ap, ◌∙◌}
use mathlib.Core.Bool.{true, ◌&&◌}
use mathlib.Core.List.{List, [], ◌∷◌, ◌++◌, append_assoc, append-nil}
use lib.ListN.{length, length-append}
use lib.Seq.{take_all}
use lib.Dec.{eqb, leb, ltb}
use native.Mathlib.Omega.{arith}
use borrow.Author.Tests.{eqb-true, eqb-false, eq-eqb, ne_eqb, lt-ltb}

-- the numbers of a character of which so many bytes were taken
abbrev pub Wants : ℕ → ℕ → ℕ → Type 0
Wants zero need code = need ≡ 0
Wants (suc zero) need code = (1 ≤ need) × ((need ≤ 3) × (code < 2 ^ (6 - need)))
Wants (suc (suc zero)) need code = (1 ≤ need) × ((need ≤ 2) × (code < 2 ^ (11 - need)))
Wants (suc (suc (suc zero))) need code = (need ≡ 1) × (code < 2 ^ 15)
Wants (suc (suc (suc (suc n)))) need code = ⊥

-- the bytes g of a character were taken, and the machine stands where they lead
pub record BytesTaken (g : List ℕ) (p : Part) : Type 0 where
  pub count : p.count ≡ length g
  pub reached : (s : List ℕ) → reads start 0 (g ++ s) ≡ reads p.state (length g) s
  pub wants : Wants p.count p.state.need p.state.code
  pub high : p.state.high ≤ 0xBF

-- ---- the bounds

pub part_bounded : (p : Part) → Wants p.count p.state.need p.state.code → part_bounds p ≡ true
part_bounded p h = go p.count p.state.need p.state.code h
  where
    go : (k need code : ℕ) → Wants k need code
        → (if eqb k 0 then eqb need 0 else leb 1 need && leb (k + need) 4 && ltb code (2 ^ (1 + 6 * k - (k + need)))) ≡ true
    go zero need code h = eq-eqb need 0 h
    go (suc zero) zero code h = absurd (omega arith)
    go (suc zero) (suc zero) code h = lt-ltb code 32 h.1.1
    go (suc zero) (suc (suc zero)) code h = lt-ltb code 16 h.1.1
    go (suc zero) (suc (suc (suc zero))) code h = lt-ltb code 8 h.1.1
    go (suc zero) (suc (suc (suc (suc n)))) code h = absurd (omega arith)
    go (suc (suc zero)) zero code h = absurd (omega arith)
    go (suc (suc zero)) (suc zero) code h = lt-ltb code 1024 h.1.1
    go (suc (suc zero)) (suc (suc zero)) code h = lt-ltb code 512 h.1.1
    go (suc (suc zero)) (suc (suc (suc n))) code h = absurd (omega arith)
    go (suc (suc (suc zero))) zero code h = absurd (omega arith)
    go (suc (suc (suc zero))) (suc zero) code h = lt-ltb code 32768 h.1
    go (suc (suc (suc zero))) (suc (suc n)) code h = absurd (omega arith)
    go (suc (suc (suc (suc n)))) need code h = absurd h

-- a byte is awaited exactly within a character
pub same_test : (k need code : ℕ) → Wants k need code → eqb need 0 ≡ eqb k 0
same_test zero need code h = eq-eqb need 0 h
same_test (suc zero) need code h = ne_eqb need 0 (λ e. omega arith)
same_test (suc (suc zero)) need code h = ne_eqb need 0 (λ e. omega arith)
same_test (suc (suc (suc zero))) need code h = ne_eqb need 0 (λ e. omega arith)
same_test (suc (suc (suc (suc n)))) need code h = absurd h

-- ---- one byte more

grows : (n c x : ℕ) → 2 ≤ n → n ≤ 3 → c < 2 ^ (6 - n) → x < 64 → c * 64 + x < 2 ^ (11 - (n - 1))
grows zero c x l u h r = absurd (omega arith)
grows (suc zero) c x l u h r = absurd (omega arith)
grows (suc (suc zero)) c x l u h r = omega arith
grows (suc (suc (suc zero))) c x l u h r = omega arith
grows (suc (suc (suc (suc n)))) c x l u h r = absurd (omega arith)

-- what a byte does to a character of which k bytes were taken
abbrev pub Wanted : ℕ → Step → Type 0
Wanted k (steps.More u) = Wants (k + 1) u.need u.code × (u.high ≤ 0xBF)
Wanted k (steps.Char c) = Unit {0}
Wanted k steps.Bad = Unit {0}

first_wants : (b : ℕ) → Wanted 0 (first b)
unfolding first
first_wants b =
    let P : Step → Type 0 = Wanted 0 in
    if_is P (ascii b) (λ _. tt) (λ _.
    if_is P (within 0xC2 0xDF b) (λ e. let h = within_is 0xC2 0xDF b e in ((omega arith, (omega arith, omega arith)), omega arith)) (λ _.
    if_is P (within 0xE0 0xE0 b) (λ e. let h = within_is 0xE0 0xE0 b e in ((omega arith, (omega arith, omega arith)), omega arith)) (λ _.
    if_is P (within 0xE1 0xEC b) (λ e. let h = within_is 0xE1 0xEC b e in ((omega arith, (omega arith, omega arith)), omega arith)) (λ _.
    if_is P (within 0xED 0xED b) (λ e. let h = within_is 0xED 0xED b e in ((omega arith, (omega arith, omega arith)), omega arith)) (λ _.
    if_is P (within 0xEE 0xEF b) (λ e. let h = within_is 0xEE 0xEF b e in ((omega arith, (omega arith, omega arith)), omega arith)) (λ _.
    if_is P (within 0xF0 0xF0 b) (λ e. let h = within_is 0xF0 0xF0 b e in ((omega arith, (omega arith, omega arith)), omega arith)) (λ _.
    if_is P (within 0xF1 0xF3 b) (λ e. let h = within_is 0xF1 0xF3 b e in ((omega arith, (omega arith, omega arith)), omega arith)) (λ _.
    if_is P (within 0xF4 0xF4 b) (λ e. let h = within_is 0xF4 0xF4 b e in ((omega arith, (omega arith, omega arith)), omega arith)) (λ _. tt)))))))))

-- within a character: the arm that a state with bytes to come takes
within_wants : (k : ℕ) (t : Begun) (b : ℕ) → (t.need ≡ 0 → ⊥)
    → ((t.need ≡ 1 → ⊥) → Wants (k + 1) (t.need - 1) (t.code * 64 + b % 64)) → Wanted k (step t b)
unfolding step
within_wants k t b some on =
    let P : Step → Type 0 = Wanted k in
    if_is P (eqb t.need 0) (λ e. absurd (some (eqb-true t.need 0 e))) (λ _.
    if_is P (within t.low t.high b && leb t.code 0x7FFF)
    (λ _. if_is P (eqb t.need 1) (λ _. tt) (λ e. (on (eqb-false t.need 1 e), omega arith)))
    (λ _. tt))

pub wants_on : (k : ℕ) (t : Begun) (b : ℕ) → Wants k t.need t.code → Wanted k (step t b)
unfolding step
wants_on zero t b h = rw h (first_wants b)
wants_on (suc zero) t b h =
    within_wants 1 t b (λ e. omega arith)
    (λ e. (omega arith, (omega arith, grows t.need t.code (b % 64) (omega arith) (omega arith) h.1.1 (omega arith))))
wants_on (suc (suc zero)) t b h = within_wants 2 t b (λ e. omega arith) (λ e. two t.need t.code h.0 h.1.0 e h.1.1)
  where
    two : (n c : ℕ) → 1 ≤ n → n ≤ 2 → (n ≡ 1 → ⊥) → c < 2 ^ (11 - n) → (n - 1 ≡ 1) × (c * 64 + b % 64 < 2 ^ 15)
    two zero c l u e h = absurd (omega arith)
    two (suc zero) c l u e h = absurd (e refl)
    two (suc (suc zero)) c l u e h = (refl, omega arith)
    two (suc (suc (suc n))) c l u e h = absurd (omega arith)
wants_on (suc (suc (suc zero))) t b h = within_wants 3 t b (λ e. omega arith) (λ e. absurd (e h.0))
wants_on (suc (suc (suc (suc n)))) t b h = absurd h

-- a whole character, whose bytes are g
pub record Whole (g : List ℕ) (c : ℕ) : Type 0 where
  pub bytes : utf8 c ≡ g
  pub scalar : is_scalar c ≡ true
  pub count : width c ≡ length g

abbrev pub Stepped : List ℕ → Part → ℕ → Step → Type 0
Stepped g p b (steps.More u) = BytesTaken (g ++ (b ∷ [])) (record { count = p.count + 1; state = u })
Stepped g p b (steps.Char c) = Whole (g ++ (b ∷ [])) c
Stepped g p b steps.Bad = Unit {0}

-- a text that is read to its end as a character
read_whole : (l : List ℕ) (c : ℕ) → 1 ≤ length l → reads start 0 l ≡ decoded.Char c (length l) → Whole l c
read_whole [] c h e = absurd (omega arith)
read_whole (b ∷ l) c h e =
    let w : CharAt (b ∷ l) 0 c (length (b ∷ l)) = char_at (b ∷ l) 0 c (length (b ∷ l)) (sym e ∙ reads-front 0 b l) (omega arith) in
    record { bytes = sym w.bytes ∙ take_all (length (b ∷ l) - 0) (b ∷ l) (omega arith); scalar = w.scalar; count = omega (arith, w.on) }

pub stepped : (g : List ℕ) (p : Part) (b : ℕ) → BytesTaken g p → Stepped g p b (step p.state b)
unfolding reads
stepped g p b h = go (step p.state b) refl (wants_on p.count p.state b h.wants)
  where
    long : length (g ++ (b ∷ [])) ≡ length g + 1
    long = length-append g (b ∷ [])

    on : (s : List ℕ) → reads start 0 ((g ++ (b ∷ [])) ++ s) ≡ reads p.state (length g) (b ∷ s)
    on s = ap (reads start 0) (append_assoc g (b ∷ []) s) ∙ h.reached (b ∷ s)

    tells : (s : List ℕ) {o : Step} → step p.state b ≡ o
        → reads p.state (length g) (b ∷ s) ≡ told o (λ u. reads u (length g + 1) s) (λ c. decoded.Char c (length g + 1)) decoded.Bad
    tells s e = rw e

    go : (o : Step) → step p.state b ≡ o → Wanted p.count o → Stepped g p b o
    go (steps.More u) e w = record { count = omega (arith, h.count, long); reached = λ s. on s ∙ tells s e ∙ ap (λ (k : ℕ). reads u k s) (sym long); wants = w.0; high = w.1 }
    go (steps.Char c) e w =
        read_whole (g ++ (b ∷ [])) c (omega (arith, long))
        (sym (ap (reads start 0) (append-nil (g ++ (b ∷ [])))) ∙ on [] ∙ tells [] e ∙ ap (decoded.Char c) (sym long))
    go steps.Bad e w = tt

-- no character has the byte FF
pub never_ff : (g : List ℕ) (p : Part) → BytesTaken g p → step p.state 0xFF ≡ steps.Bad
unfolding step first within
never_ff g p h = by_bool (eqb p.state.need 0) (λ e. rw e) (λ e. rw (e, within_above p.state.low p.state.high 0xFF (omega (arith, h.high))))
