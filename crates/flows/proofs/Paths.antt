-- A stream is on a closed path exactly if the other streams join its ends. Assumes nothing.
use Rattle.std.proofs.Common.{ℕ, ◌⊎◌, List, [], ◌∷◌, refl, inl, inr, ⊎_elim, arith}
use Rattle.flows.specs.Drawings.{Drawing}
use Rattle.flows.specs.Parts.{Joined, here, along, Others}
use Rattle.flows.specs.Paths.{Member, Distinct, Route, stop, next, ClosedPath}
use Rattle.flows.specs.Theorems.{OnAPathExactlyIfLinked}
use Rattle.flows.proofs.Joins.{joined_trans, joined_sym}

member_or_not : (x : ℕ) (ys : List ℕ) → Member x ys ⊎ ¬ Member x ys
member_or_not x [] = inr (λ m. m)
member_or_not x (y ∷ ys) = grind (arith, member_or_not x ys)

-- a way that meets no place twice, its start among them
record Simple (D : Drawing) (S : ℕ → Type 0) (a c : ℕ) : Type 0 where
  streams : List ℕ
  met : List ℕ
  route : Route D S a c streams met
  no_place_twice : Distinct (a ∷ met)

module _ {D : Drawing} {S : ℕ → Type 0} where
  -- both ends of each stream of a way are met on it
  ends_met : {a c : ℕ} {ks vs : List ℕ} (k : ℕ) → Route D S a c ks vs → Member k ks → Member (D.from k) (a ∷ vs) × Member (D.to k) (a ∷ vs)
  ends_met k stop m = absurd m
  ends_met k (next j s e r) m = grind (arith, ends_met k r)

  -- a way that meets no place twice uses no stream twice: one that is used again leads back to the place it came from
  streams_once : {a c : ℕ} {ks vs : List ℕ} → Route D S a c ks vs → Distinct (a ∷ vs) → Distinct ks
  streams_once stop d = tt
  streams_once (next k s e r) d = ((λ m. grind (arith, ends_met k r)), streams_once r d.1)

  -- the rest of a way, from a place met on it
  rest_from : {b c : ℕ} {ks vs : List ℕ} (a : ℕ) → Route D S b c ks vs → Distinct (b ∷ vs) → Member a (b ∷ vs) → Simple D S a c
  rest_from a r d (inl q) = rw q (record { streams = _; met = _; route = r; no_place_twice = d })
  rest_from a stop d (inr m) = absurd m
  rest_from a (next k s e r) d (inr m) = rest_from a r d.1 m

  -- a walk with its detours cut out
  straight : {a c : ℕ} → Joined D S a c → Simple D S a c
  straight here = record { streams = []; met = []; route = stop; no_place_twice = ((λ m. m), tt) }
  straight {a} (along {b = b} k s e j) =
      let p = straight j in
      ⊎_elim
      (rest_from a p.route p.no_place_twice)
      (λ out. record { streams = k ∷ p.streams; met = b ∷ p.met; route = next k s e p.route; no_place_twice = (out, p.no_place_twice) })
      (member_or_not a (b ∷ p.met))

  -- a way that does not use n
  without : {a c : ℕ} {ks vs : List ℕ} (n : ℕ) → Route D S a c ks vs → ¬ Member n ks → Joined D (Others S n) a c
  without n stop h = here
  without n (next k s e r) h = along k (s, grind arith) e (without n r (grind arith))

  -- a way from a to c that uses n once, and one back without n, join the ends of n without n
  around : {a c : ℕ} {ks vs : List ℕ} (n : ℕ) → Route D S a c ks vs → Distinct ks → Member n ks → Joined D (Others S n) c a → Joined D (Others S n) (D.from n) (D.to n)
  around n stop d m back = absurd m
  around n (next k s e r) d (inl q) back = let i = joined_trans (without n r (grind arith)) back in let j = joined_sym i in grind arith
  around n (next k s e r) d (inr m) back = around n r d.1 m (joined_trans back (along k (s, grind arith) e here))

  -- the rest of a closed path joins the ends of n
  pub joined_from_closed_path : (n : ℕ) → ClosedPath D S n → Joined D (Others S n) (D.from n) (D.to n)
  joined_from_closed_path n c = around n c.route c.no_stream_twice c.through here

-- a way along others of S is one along S that does not use n
widen : {D : Drawing} {S : ℕ → Type 0} (n : ℕ) {a c : ℕ} {ks vs : List ℕ} → Route D (Others S n) a c ks vs → Route D S a c ks vs × ¬ Member n ks
widen n stop = (stop, λ m. m)
widen n (next k s e r) = let w = widen n r in (next k s.0 e w.0, grind arith)

-- n closes a way between its ends that does not use it
pub closed_path_from_joined : {D : Drawing} {S : ℕ → Type 0} (n : ℕ) → S n → Joined D (Others S n) (D.from n) (D.to n) → ClosedPath D S n
closed_path_from_joined {D} n s j =
    let p = straight (joined_sym j) in
    let w = widen n p.route in
    record {
      start = D.from n;
      streams = n ∷ p.streams;
      met = D.to n ∷ p.met;
      route = next n s (inl (refl, refl)) w.0;
      no_stream_twice = (w.1, streams_once p.route p.no_place_twice);
      no_place_twice = p.no_place_twice;
      through = inl refl;
    }

pub on_a_path_exactly_if_linked : OnAPathExactlyIfLinked
on_a_path_exactly_if_linked D R n u = (joined_from_closed_path n, closed_path_from_joined n u)
