use Rattle.map_miters.proofs.AnswerLaws.{give-streams, maps-meet, maps-never}
use Rattle.map_miters.proofs.AskedLaws.{miters-answer}
use Rattle.map_miters.proofs.laws.answers_law.Goals as goal

pub returns-clause-asked : goal.returns-clause-asked
returns-clause-asked c = miters-answer

pub returns-clause-streams : goal.returns-clause-streams
returns-clause-streams c = give-streams

pub returns-clause-maps : goal.returns-clause-maps
returns-clause-maps c = λ a d m kept. maps-meet a d m kept

pub returns-clause-never : goal.returns-clause-never
returns-clause-never c = λ a d m r kept. maps-never a d m r kept
