mod MovingLaws
mod PlainLaws
mod PrintingLaws
