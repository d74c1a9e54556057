use Rattle.command_endings.proofs.progress.lines.put_state.Goals as goal

pub returns-in-Cleaning : goal.returns-in-Cleaning
returns-in-Cleaning g c = rw c.in-Cleaning.is c.put.ensures

pub returns-in-Looking : goal.returns-in-Looking
returns-in-Looking g c = rw c.in-Looking.is c.put_frame.ensures

pub returns-in-Moving : goal.returns-in-Moving
returns-in-Moving g c = rw c.in-Moving.is c.put_frame-in-Moving.ensures

pub returns-in-Checking : goal.returns-in-Checking
returns-in-Checking g c = rw c.in-Checking.is c.put-in-Checking.ensures

pub returns-in-Writing : goal.returns-in-Writing
returns-in-Writing g c = rw c.in-Writing.is c.put-in-Writing.ensures
