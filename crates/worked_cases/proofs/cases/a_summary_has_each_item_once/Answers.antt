-- The items of the listed answers compute.
use Rattle.std.proofs.Common.{refl, lit<}
use Rattle.std.specs.List.Sorted.{IsStrictlySortedBy}
use Rattle.worked_cases.proofs.Candidates.{summary_is}
use Rattle.worked_cases.proofs.SmallListings.{listing_of_naagacchati, listing_of_naasti, listing_of_limited_ceti}
use Rattle.worked_cases.proofs.cases.a_summary_has_each_item_once.Goals as goal

pub returns-clause-naasti : goal.returns-clause-naasti
unfolding IsStrictlySortedBy
returns-clause-naasti c =
    summary_is _ _ _ _ _ listing_of_naasti ((refl, (refl, tt)), ((refl, tt), (tt, tt)))
    (((0, lit< tt, refl), ((1, lit< tt, refl), tt)), (((0, lit< tt, refl), ((2, lit< tt, refl), tt)), tt))
    ((0, lit< tt, (0, lit< tt, refl)), ((0, lit< tt, (1, lit< tt, refl)), ((1, lit< tt, (1, lit< tt, refl)), tt)))

pub returns-clause-naagacchati : goal.returns-clause-naagacchati
unfolding IsStrictlySortedBy
returns-clause-naagacchati c =
    summary_is _ _ _ _ _ listing_of_naagacchati ((refl, (refl, tt)), ((refl, tt), (tt, tt)))
    (((0, lit< tt, refl), ((1, lit< tt, refl), ((2, lit< tt, refl), tt))), tt)
    ((0, lit< tt, (0, lit< tt, refl)), ((0, lit< tt, (1, lit< tt, refl)), ((0, lit< tt, (2, lit< tt, refl)), tt)))

pub returns-clause-ceti : goal.returns-clause-ceti
unfolding IsStrictlySortedBy
returns-clause-ceti c =
    summary_is _ _ _ _ _ listing_of_limited_ceti ((refl, (refl, (refl, tt))), ((refl, (refl, tt)), ((refl, tt), (tt, tt))))
    (((0, lit< tt, refl), ((2, lit< tt, refl), tt)), (((1, lit< tt, refl), ((3, lit< tt, refl), tt)), tt))
    ((0, lit< tt, (0, lit< tt, refl)), ((1, lit< tt, (0, lit< tt, refl)), ((0, lit< tt, (1, lit< tt, refl)), ((1, lit< tt, (1, lit< tt, refl)), tt))))
