use Rattle.std.proofs.lemmas.List.Filters.{dedup_is}
use Rattle.pulse_parts.proofs.node_list.NodeList.rise.Goals as goal
use Rattle.pulse_parts.proofs.NodeListLaws.{ordered_rises, ordered_keeps, ordered_within}

pub returns-clause-rising : goal.returns-clause-rising
returns-clause-rising c =
    ordered_rises c.args.self.now.nodes.items c.sort_unstable.new.self.items c.dedup.new.self.items
    record { moved = c.sort_unstable.ensures.permutation; sorted = c.sort_unstable.ensures.sorted; same = dedup_is _ _ _ c.dedup.ensures.filtered }

pub returns-clause-kept : goal.returns-clause-kept
returns-clause-kept c v =
    ordered_keeps c.args.self.now.nodes.items c.sort_unstable.new.self.items c.dedup.new.self.items v
    record { moved = c.sort_unstable.ensures.permutation; sorted = c.sort_unstable.ensures.sorted; same = dedup_is _ _ _ c.dedup.ensures.filtered }

pub returns-clause-within : goal.returns-clause-within
returns-clause-within c first end =
    ordered_within c.args.self.now.nodes.items c.sort_unstable.new.self.items c.dedup.new.self.items first end
    record { moved = c.sort_unstable.ensures.permutation; sorted = c.sort_unstable.ensures.sorted; same = dedup_is _ _ _ c.dedup.ensures.filtered }
