-- `text_writer::put_words` meets its contract: before each turn the text of the words so far stands there. Assumes nothing.
use borrow.Author.Rules.{rules}
use mathlib.Core.Path.{ap}
use Prim.Native.Nat.{ℕ}
use mir.Syntax.{w32}
use mir.Val.{SFits}
use mir.ValLaws.{to_z-of_z}
use Rattle.lists.proofs.BufferLaws.{begin, turn, room, finish, wrote_as}
use Rattle.cnf.specs.Lent.{word}
use Rattle.dimacs.specs.Text.{word_text, body}
use Rattle.text_writer.proofs.put_words.Goals as goal

pub loop-word-init : goal.loop-word-init
unfolding body
loop-word-init c = begin _

pub put_word-at-requires : goal.put_word-at-requires
unfolding body
put_word-at-requires c =
    let text = λ (k : ℕ). word_text (word c.args.words.now k) in
    let fits : SFits w32 (word c.args.words.now c.loop-word.word-index) = search rules in
    rw (to_z-of_z w32 _ fits) (room text c.loop-word.invariant c.requires c.loop-word-test.true)

pub loop-word-preserved : goal.loop-word-preserved
unfolding body
loop-word-preserved c =
    let text = λ (k : ℕ). word_text (word c.args.words.now k) in
    let fits : SFits w32 (word c.args.words.now c.loop-word.word-index) = search rules in
    turn text c.loop-word.invariant (wrote_as c.put_word-at.ensures (ap word_text (to_z-of_z w32 _ fits)))

pub returns : goal.returns
unfolding body
returns c = finish _ c.loop-word.invariant c.loop-word.auto.word-index-end c.loop-word-test.false
