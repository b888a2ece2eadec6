-- Two answers that a contract permits for one input coincide, and so does all lent memory after them.
use Rattle.std.specs.Prelude.{ℕ, ◌≡◌, Bool, List}
use Rattle.std.proofs.Common.{sym, ap, ◌∙◌}
use Rattle.reader_exports.specs.Reader.{Started, started, open_left, Memory, Left, left, next_left}

pub open_one_answer : (source : List ℕ) (mode : ℕ) (skip : Bool) (words values : List ℕ) (a b : ℕ) (wa wb va vb : List ℕ)
    → started a wa va ≡ open_left source mode skip words values → started b wb vb ≡ open_left source mode skip words values
    → (a ≡ b) × (wa ≡ wb) × (va ≡ vb)
open_one_answer source mode skip words values a b wa wb va vb ea eb =
    let e : started a wa va ≡ started b wb vb = ea ∙ sym eb in
    (ap (λ (s : Started). s.answer) e, ap (λ (s : Started). s.words) e, ap (λ (s : Started). s.values) e)

pub next_one_answer : (source : List ℕ) (m : Memory) (a b : ℕ) (ma mb : Memory) → left a ma ≡ next_left source m → left b mb ≡ next_left source m → (a ≡ b) × (ma ≡ mb)
next_one_answer source m a b ma mb ea eb =
    let e : left a ma ≡ left b mb = ea ∙ sym eb in
    (ap (λ (l : Left). l.answer) e, ap (λ (l : Left). l.memory) e)
