use Rattle.witnesses.proofs.writing.put_reason.Goals as goal

pub returns-in-Unchecked : goal.returns-in-Unchecked
returns-in-Unchecked g c = rw c.in-Unchecked.is c.put.ensures

pub returns-in-Unreached : goal.returns-in-Unreached
returns-in-Unreached g c = rw c.in-Unreached.is c.put-in-Unreached.ensures

pub returns-in-Lost : goal.returns-in-Lost
returns-in-Lost g c = rw c.in-Lost.is c.put-in-Lost.ensures
