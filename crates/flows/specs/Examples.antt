-- The plants that are worked out: what is given of each. Assumes nothing.
--
-- Given           a plant with units 0 to u and, for each number from 1 on, the ends of its stream, the amount that the source
--                 has, and whether it is isolated; amounts are masses in grams, or numbers of totalisers
-- five            a list of five
-- stream a b      the ends of a stream from unit a to unit b
-- mass n          n grams
-- nothing         no ends or amounts at five numbers
-- none_isolated   none of five numbers is isolated
-- twin_streams    the streams of Twin: 1 leads in, 2 and 3 run side by side, 4 and 5 lead out
-- twin and so on  the plants, by the names that the functions of the code have
-- plants          all of them, in the order of the table
use Rattle.std.specs.Prelude.{ℕ, Bool, true, false, List, [], ◌∷◌, ℤ, pos, Some, None, Option}
use Rattle.flows.specs.declared.ends.Ends.{Ends}

pub data Given : Type 0 where
  masses : ℕ → List (Option Ends) → List (Option ℤ) → List Bool → Given
  totalisers : ℕ → List (Option Ends) → List (Option ℕ) → List Bool → Given

abbrev pub five : {X : Type 0} → X → X → X → X → X → List X
five a b c d e = a ∷ b ∷ c ∷ d ∷ e ∷ []

abbrev pub stream : ℕ → ℕ → Option Ends
stream a b = Some (record { from = a; to = b })

abbrev pub mass : ℕ → Option ℤ
mass n = Some (pos n)

abbrev pub nothing : {X : Type 0} → List (Option X)
nothing = five None None None None None

abbrev pub none_isolated : List Bool
none_isolated = five false false false false false

abbrev pub twin_streams : List (Option Ends)
twin_streams = five (stream 0 1) (stream 1 2) (stream 1 2) (stream 2 3) (stream 3 0)

abbrev pub twin : Given
twin = masses 3 twin_streams (five (mass 100) None None None (mass 100)) none_isolated

abbrev pub twin_in_dispute : Given
twin_in_dispute = masses 3 twin_streams (five (mass 100) None None None (mass 90)) none_isolated

abbrev pub twin_with_5_isolated : Given
twin_with_5_isolated = masses 3 twin_streams (five (mass 100) None None None (mass 100)) (five false false false false true)

abbrev pub dead_end : Given
dead_end = masses 1 (five (stream 0 1) None None None None) nothing none_isolated

abbrev pub unread_loop : Given
unread_loop = masses 1 (five (stream 1 1) None None None None) nothing none_isolated

abbrev pub read_loop : Given
read_loop = masses 1 (five (stream 1 1) None None None None) (five (mass 5) None None None None) none_isolated

abbrev pub two_in_dispute : Given
two_in_dispute = masses 2 (five (stream 0 1) (stream 2 0) None None None) (five (mass 5) (mass 5) None None None) none_isolated

abbrev pub rolled_over : Given
rolled_over = totalisers 1 (five (stream 0 1) (stream 0 1) (stream 1 0) None None) (five (Some 999990) (Some 20) None None None) none_isolated

abbrev pub through_unit_0 : Given
through_unit_0 = masses 2 (five (stream 0 1) (stream 1 2) (stream 2 0) None None) nothing none_isolated

abbrev pub inside_one_part : Given
inside_one_part = masses 2 (five (stream 1 2) (stream 2 1) None None None) (five None (mass 5) None None None) none_isolated

abbrev pub read_across_the_cut : Given
read_across_the_cut = masses 2 (five None (stream 0 1) (stream 1 2) (stream 1 2) (stream 2 0)) (five (mass 7) (mass 30) None (mass 10) None) none_isolated

abbrev pub plants : List Given
plants =
    twin ∷ twin_in_dispute ∷ twin_with_5_isolated ∷ dead_end ∷ unread_loop ∷ read_loop ∷ two_in_dispute ∷ rolled_over ∷ through_unit_0 ∷ inside_one_part
    ∷ read_across_the_cut ∷ []
