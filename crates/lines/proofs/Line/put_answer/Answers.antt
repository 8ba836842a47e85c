-- `Line::put_answer` meets its contract.
use Rattle.printing.specs.Ascii.{bytes}
use Rattle.printing.specs.Lines.{answer_word}
use Rattle.lines.proofs.Writing.{writes_then_in}
use Rattle.lines.proofs.Line.put_answer.Goals as goal

pub returns-in-Quiet : goal.returns-in-Quiet
unfolding answer_word bytes
returns-in-Quiet g c =
    rw c.in-Quiet.is c.put.ensures

pub returns-in-Spent : goal.returns-in-Spent
unfolding answer_word bytes
returns-in-Spent g c =
    rw c.in-Spent.is c.put-in-Spent.ensures

pub returns-in-Full : goal.returns-in-Full
unfolding answer_word bytes
returns-in-Full g c =
    rw c.in-Full.is c.put-in-Full.ensures

pub returns-in-Verdict : goal.returns-in-Verdict
unfolding answer_word bytes
returns-in-Verdict g c =
    rw c.in-Verdict.is (writes_then_in c.put_byte.ensures c.put_name.ensures)
