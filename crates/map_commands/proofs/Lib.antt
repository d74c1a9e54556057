mod BackLiftLaws
mod CheckLaws
mod LiftLaws
mod MiterLaws
mod ProductLaws
mod PairLaws
