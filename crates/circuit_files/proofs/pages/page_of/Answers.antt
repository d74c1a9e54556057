use Rattle.std.proofs.Common.{ap, sym}
use Rattle.circuit_files.specs.pages.Pages.{meaning_of, rule_of, advice_of}
use Rattle.circuit_files.proofs.pages.page_of.Goals as goal

pub returns-in-BadHeader : goal.returns-in-BadHeader
returns-in-BadHeader c = record { meaning = sym (ap meaning_of c.in-BadHeader.is); rule = sym (ap rule_of c.in-BadHeader.is); advice = sym (ap advice_of c.in-BadHeader.is) }

pub returns-in-TooLarge : goal.returns-in-TooLarge
returns-in-TooLarge c = record { meaning = sym (ap meaning_of c.in-TooLarge.is); rule = sym (ap rule_of c.in-TooLarge.is); advice = sym (ap advice_of c.in-TooLarge.is) }

pub returns-in-MaxIndex : goal.returns-in-MaxIndex
returns-in-MaxIndex c = record { meaning = sym (ap meaning_of c.in-MaxIndex.is); rule = sym (ap rule_of c.in-MaxIndex.is); advice = sym (ap advice_of c.in-MaxIndex.is) }

pub returns-in-BadLine : goal.returns-in-BadLine
returns-in-BadLine c = record { meaning = sym (ap meaning_of c.in-BadLine.is); rule = sym (ap rule_of c.in-BadLine.is); advice = sym (ap advice_of c.in-BadLine.is) }

pub returns-in-BadLiteral : goal.returns-in-BadLiteral
returns-in-BadLiteral c = record { meaning = sym (ap meaning_of c.in-BadLiteral.is); rule = sym (ap rule_of c.in-BadLiteral.is); advice = sym (ap advice_of c.in-BadLiteral.is) }

pub returns-in-DefinedTwice : goal.returns-in-DefinedTwice
returns-in-DefinedTwice c = record { meaning = sym (ap meaning_of c.in-DefinedTwice.is); rule = sym (ap rule_of c.in-DefinedTwice.is); advice = sym (ap advice_of c.in-DefinedTwice.is) }

pub returns-in-Undefined : goal.returns-in-Undefined
returns-in-Undefined c = record { meaning = sym (ap meaning_of c.in-Undefined.is); rule = sym (ap rule_of c.in-Undefined.is); advice = sym (ap advice_of c.in-Undefined.is) }

pub returns-in-Cycle : goal.returns-in-Cycle
returns-in-Cycle c = record { meaning = sym (ap meaning_of c.in-Cycle.is); rule = sym (ap rule_of c.in-Cycle.is); advice = sym (ap advice_of c.in-Cycle.is) }

pub returns-in-BadReset : goal.returns-in-BadReset
returns-in-BadReset c = record { meaning = sym (ap meaning_of c.in-BadReset.is); rule = sym (ap rule_of c.in-BadReset.is); advice = sym (ap advice_of c.in-BadReset.is) }

pub returns-in-BadDelta : goal.returns-in-BadDelta
returns-in-BadDelta c = record { meaning = sym (ap meaning_of c.in-BadDelta.is); rule = sym (ap rule_of c.in-BadDelta.is); advice = sym (ap advice_of c.in-BadDelta.is) }

pub returns-in-Truncated : goal.returns-in-Truncated
returns-in-Truncated c = record { meaning = sym (ap meaning_of c.in-Truncated.is); rule = sym (ap rule_of c.in-Truncated.is); advice = sym (ap advice_of c.in-Truncated.is) }

pub returns-in-BadSymbol : goal.returns-in-BadSymbol
returns-in-BadSymbol c = record { meaning = sym (ap meaning_of c.in-BadSymbol.is); rule = sym (ap rule_of c.in-BadSymbol.is); advice = sym (ap advice_of c.in-BadSymbol.is) }

pub returns-in-Trailing : goal.returns-in-Trailing
returns-in-Trailing c = record { meaning = sym (ap meaning_of c.in-Trailing.is); rule = sym (ap rule_of c.in-Trailing.is); advice = sym (ap advice_of c.in-Trailing.is) }

pub returns-in-Width : goal.returns-in-Width
returns-in-Width c = record { meaning = sym (ap meaning_of c.in-Width.is); rule = sym (ap rule_of c.in-Width.is); advice = sym (ap advice_of c.in-Width.is) }

pub returns-in-TooMany : goal.returns-in-TooMany
returns-in-TooMany c = record { meaning = sym (ap meaning_of c.in-TooMany.is); rule = sym (ap rule_of c.in-TooMany.is); advice = sym (ap advice_of c.in-TooMany.is) }

pub returns-in-NoSuchName : goal.returns-in-NoSuchName
returns-in-NoSuchName c = record { meaning = sym (ap meaning_of c.in-NoSuchName.is); rule = sym (ap rule_of c.in-NoSuchName.is); advice = sym (ap advice_of c.in-NoSuchName.is) }

pub returns-in-NoSuchLatch : goal.returns-in-NoSuchLatch
returns-in-NoSuchLatch c = record { meaning = sym (ap meaning_of c.in-NoSuchLatch.is); rule = sym (ap rule_of c.in-NoSuchLatch.is); advice = sym (ap advice_of c.in-NoSuchLatch.is) }

pub returns-in-NoSuchProperty : goal.returns-in-NoSuchProperty
returns-in-NoSuchProperty c = record { meaning = sym (ap meaning_of c.in-NoSuchProperty.is); rule = sym (ap rule_of c.in-NoSuchProperty.is); advice = sym (ap advice_of c.in-NoSuchProperty.is) }

pub returns-in-TooManyNodes : goal.returns-in-TooManyNodes
returns-in-TooManyNodes c = record { meaning = sym (ap meaning_of c.in-TooManyNodes.is); rule = sym (ap rule_of c.in-TooManyNodes.is); advice = sym (ap advice_of c.in-TooManyNodes.is) }

pub returns-in-TooManySteps : goal.returns-in-TooManySteps
returns-in-TooManySteps c = record { meaning = sym (ap meaning_of c.in-TooManySteps.is); rule = sym (ap rule_of c.in-TooManySteps.is); advice = sym (ap advice_of c.in-TooManySteps.is) }

pub returns-in-NotAMap : goal.returns-in-NotAMap
returns-in-NotAMap c = record { meaning = sym (ap meaning_of c.in-NotAMap.is); rule = sym (ap rule_of c.in-NotAMap.is); advice = sym (ap advice_of c.in-NotAMap.is) }

pub returns-in-NoSuchLiteral : goal.returns-in-NoSuchLiteral
returns-in-NoSuchLiteral c = record { meaning = sym (ap meaning_of c.in-NoSuchLiteral.is); rule = sym (ap rule_of c.in-NoSuchLiteral.is); advice = sym (ap advice_of c.in-NoSuchLiteral.is) }

pub returns-in-ShapesDiffer : goal.returns-in-ShapesDiffer
returns-in-ShapesDiffer c = record { meaning = sym (ap meaning_of c.in-ShapesDiffer.is); rule = sym (ap rule_of c.in-ShapesDiffer.is); advice = sym (ap advice_of c.in-ShapesDiffer.is) }

pub returns-in-NotClosed : goal.returns-in-NotClosed
returns-in-NotClosed c = record { meaning = sym (ap meaning_of c.in-NotClosed.is); rule = sym (ap rule_of c.in-NotClosed.is); advice = sym (ap advice_of c.in-NotClosed.is) }

pub returns-in-BadRoute : goal.returns-in-BadRoute
returns-in-BadRoute c = record { meaning = sym (ap meaning_of c.in-BadRoute.is); rule = sym (ap rule_of c.in-BadRoute.is); advice = sym (ap advice_of c.in-BadRoute.is) }

pub returns-in-UsedTwice : goal.returns-in-UsedTwice
returns-in-UsedTwice c = record { meaning = sym (ap meaning_of c.in-UsedTwice.is); rule = sym (ap rule_of c.in-UsedTwice.is); advice = sym (ap advice_of c.in-UsedTwice.is) }

pub returns-in-CountDiffers : goal.returns-in-CountDiffers
returns-in-CountDiffers c = record { meaning = sym (ap meaning_of c.in-CountDiffers.is); rule = sym (ap rule_of c.in-CountDiffers.is); advice = sym (ap advice_of c.in-CountDiffers.is) }

pub returns-in-TooLong : goal.returns-in-TooLong
returns-in-TooLong c = record { meaning = sym (ap meaning_of c.in-TooLong.is); rule = sym (ap rule_of c.in-TooLong.is); advice = sym (ap advice_of c.in-TooLong.is) }

pub returns-in-Misread : goal.returns-in-Misread
returns-in-Misread c = record { meaning = sym (ap meaning_of c.in-Misread.is); rule = sym (ap rule_of c.in-Misread.is); advice = sym (ap advice_of c.in-Misread.is) }

pub returns-in-NotShown : goal.returns-in-NotShown
returns-in-NotShown c = record { meaning = sym (ap meaning_of c.in-NotShown.is); rule = sym (ap rule_of c.in-NotShown.is); advice = sym (ap advice_of c.in-NotShown.is) }

pub returns-in-NoMemory : goal.returns-in-NoMemory
returns-in-NoMemory c = record { meaning = sym (ap meaning_of c.in-NoMemory.is); rule = sym (ap rule_of c.in-NoMemory.is); advice = sym (ap advice_of c.in-NoMemory.is) }

pub returns-in-Device : goal.returns-in-Device
returns-in-Device c = record { meaning = sym (ap meaning_of c.in-Device.is); rule = sym (ap rule_of c.in-Device.is); advice = sym (ap advice_of c.in-Device.is) }
