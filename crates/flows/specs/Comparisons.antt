-- Groups whose elements can be told apart by a test. Assumes nothing.
--
-- Comparison G           a test for sameness of elements, and that it is right
-- compare_residues m h   residues modulo m are compared as numbers
-- compare_pairs a b      pairs are compared part by part
use Rattle.std.specs.Prelude.{◌≡◌, ℕ, ◌<◌, Bool, ◌&&◌, IsTrue, ◌↔◌, ◌==◌}
use Rattle.std.proofs.Common.{ap, eqb-true, eq-eqb}
use Rattle.quantity.specs.Group.{Group, product}
use Rattle.quantity.specs.Modulo.{residue_path, modulo}
use Rattle.std.proofs.lemmas.Bool.{and_parts, and_from}

pub record Comparison (G : Group) : Type 0 where
  pub same : G.Element → G.Element → Bool
  pub decides : (x y : G.Element) → IsTrue (same x y) ↔ (x ≡ y)

abbrev pub compare_residues : (m : ℕ) (some : 0 < m) → Comparison (modulo m some)
compare_residues m some = record {
  same = λ x y. (x.0 == y.0);
  decides = λ x y. (λ e. residue_path (eqb-true x.0 y.0 e), λ e. eq-eqb x.0 y.0 (ap (λ r. r.0) e));
}

abbrev pub compare_pairs : {G H : Group} → Comparison G → Comparison H → Comparison (product G H)
compare_pairs a b = record {
  same = λ x y. a.same x.0 y.0 && b.same x.1 y.1;
  decides = λ x y. (
    λ e.
        let parts = and_parts (a.same x.0 y.0) (b.same x.1 y.1) e in
        λ i. ((a.decides x.0 y.0).0 parts.0 i, (b.decides x.1 y.1).0 parts.1 i),
    λ e. and_from (a.same x.0 y.0) (b.same x.1 y.1) ((a.decides x.0 y.0).1 (ap (λ p. p.0) e)) ((b.decides x.1 y.1).1 (ap (λ p. p.1) e)),
  );
}
