use Rattle.std.proofs.Common.{◌≡◌, rules, to_z, of_z}
use Rattle.std.proofs.lemmas.Result.{on_ok_weaker}
use Rattle.std.specs.Int.{w128}
use Rattle.arrow_csv.proofs.UnitTexts.{day_time_text, month_day_nano_text}
use Rattle.arrow_csv.proofs.intervals.push_interval.Goals as goal

-- both numbers are written
pub returns-in_ok-push_counted-in-DayTime : goal.returns-in_ok-push_counted-in-DayTime
returns-in_ok-push_counted-in-DayTime c =
    let x = c.in-DayTime in
    let days : to_z w128 (of_z w128 c.from-in-DayTime.result) ≡ x.days = search rules in
    let milliseconds : to_z w128 (of_z w128 c.from-in-DayTime-2.result) ≡ x.milliseconds = search rules in
    on_ok_weaker c.push_counted-in-DayTime.result (day_time_text c.args.interval x.days x.milliseconds _ _ _ _ _ x.is days milliseconds c.in_ok-push_counted-in-DayTime.ensures) c.push_counted-in-DayTime.ensures

-- all three are
pub returns-in_ok-push_counted-in-MonthDayNano : goal.returns-in_ok-push_counted-in-MonthDayNano
returns-in_ok-push_counted-in-MonthDayNano c =
    let x = c.in-MonthDayNano in
    let months : to_z w128 (of_z w128 c.from-in-MonthDayNano.result) ≡ x.months = search rules in
    let days : to_z w128 (of_z w128 c.from-in-MonthDayNano-2.result) ≡ x.days = search rules in
    let nanoseconds : to_z w128 (of_z w128 c.from-in-MonthDayNano-3.result) ≡ x.nanoseconds = search rules in
    on_ok_weaker c.push_counted-in-MonthDayNano-2.result
    (month_day_nano_text c.args.interval x.months x.days x.nanoseconds _ _ _ _ _ _ _ x.is months days nanoseconds c.in_ok-push_months-in-MonthDayNano.ensures c.in_ok-push_counted-in-MonthDayNano.ensures) c.push_counted-in-MonthDayNano-2.ensures
