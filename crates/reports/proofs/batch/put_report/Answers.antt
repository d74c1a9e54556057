use Rattle.reports.specs.Batches.{report_text}
use Rattle.reports.proofs.batch.put_report.Goals as goal

pub returns-in-Done : goal.returns-in-Done
unfolding report_text
returns-in-Done g c = rw c.in-Done.is c.put_done.ensures

pub returns-in-Refused : goal.returns-in-Refused
unfolding report_text
returns-in-Refused g c = rw c.in-Refused.is c.put_refusal.ensures

pub returns-in-NoMemory : goal.returns-in-NoMemory
unfolding report_text
returns-in-NoMemory g c = rw c.in-NoMemory.is c.put.ensures

pub returns-in-NoSuchName : goal.returns-in-NoSuchName
unfolding report_text
returns-in-NoSuchName g c = rw c.in-NoSuchName.is c.put-in-NoSuchName.ensures

pub returns-in-NoSuchLatch : goal.returns-in-NoSuchLatch
unfolding report_text
returns-in-NoSuchLatch g c = rw c.in-NoSuchLatch.is c.put-in-NoSuchLatch.ensures

pub returns-in-Misread : goal.returns-in-Misread
unfolding report_text
returns-in-Misread g c = rw c.in-Misread.is c.put-in-Misread.ensures

pub returns-in-NotShown : goal.returns-in-NotShown
unfolding report_text
returns-in-NotShown g c = rw c.in-NotShown.is c.put-in-NotShown.ensures
