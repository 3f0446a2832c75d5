use Rattle.std.proofs.Common.{◌^◌, lit<}
use Rattle.quantity.specs.Totalisers.{modulus}
use Rattle.flows.specs.Comparisons.{compare_residues, compare_pairs}
use Rattle.flows.proofs.theorems.amounts_can_be_told_apart.Goals as goal

pub returns : goal.returns
returns c =
    let grams = compare_residues (2 ^ 64) (lit< tt) in
    let pair = compare_pairs grams grams in
    record {
      masses = grams;
      totalisers = compare_residues modulus (lit< tt);
      components = compare_pairs pair pair;
    }
