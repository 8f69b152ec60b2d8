-- `air::run::complain_of_fault` is safe and ends: no more is written than the row has.

-- ?? slice-aggregate-complain-2 : tie.Need-slice-aggregate-complain-2
-- slice-aggregate-complain-2 c = sym (length-take-le _ _ (omega (arith, c.before.before.within-row.ensures.1)))
