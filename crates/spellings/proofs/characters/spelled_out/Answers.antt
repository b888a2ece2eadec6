-- `spelled_out` asks the definition's tests one by one.
use mathlib.Core.Path.{sym, ◌∙◌}
use borrow.Author.Tests.{lt-ltb, eq-eqb, ne_eqb}
use Rattle.items.specs.Meaning.{spelled_out}
use Rattle.spellings.proofs.Forms.{short_alone}
use Rattle.spellings.proofs.characters.spelled_out.Goals as goal

pub returns-then-t-le1 : goal.returns-then-t-le1
returns-then-t-le1 c = c.only_one.ensures ∙ sym (short_alone c.args.report c.args.t.now c.if-t-le1.true)

pub returns-then-t-eq117 : goal.returns-then-t-eq117
unfolding spelled_out
returns-then-t-eq117 c = c.hex_named.ensures ∙ simp (eq-eqb _ _ c.if-t-eq117.true, lt-ltb _ _ c.if-t-le1.false)

pub returns-then-t-eq120 : goal.returns-then-t-eq120
unfolding spelled_out
returns-then-t-eq120 c = c.hex_named-then-t-eq120.ensures ∙ simp (ne_eqb _ _ c.if-t-eq117.false, eq-eqb _ _ c.if-t-eq120.true, lt-ltb _ _ c.if-t-le1.false)

pub returns : goal.returns
unfolding spelled_out
returns c = c.only_one-2.ensures ∙ simp (ne_eqb _ _ c.if-t-eq117.false, ne_eqb _ _ c.if-t-eq120.false)
