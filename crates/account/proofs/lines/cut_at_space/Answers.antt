use Rattle.account.proofs.Spaces.{cut_from_split}
use Rattle.account.proofs.lines.cut_at_space.Goals as goal

pub returns : goal.returns
returns c = cut_from_split c.args.line.now c.split_once.result c.split_once.ensures.cases
