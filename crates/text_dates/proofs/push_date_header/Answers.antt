use Rattle.std.proofs.Common.{◌≡◌, ◌∙◌, ◌++◌, ap, append_assoc, codes}
use Rattle.model.specs.Calendar.{two_digits, four_digits, hour_at, minute_at, second_at, month_name, weekday_name, date_header}
use Rattle.model.specs.Calendar.{date_header_of}
use Rattle.model.specs.Stream.{Octets}
use Rattle.text_dates.proofs.push_date_header.Goals as goal

regroup : (a b c d e f g h i j k l m n o : Octets) → a ++ b ++ c ++ d ++ e ++ f ++ g ++ h ++ i ++ j ++ k ++ l ++ m ++ n ++ o
    ≡ a ++ (b ++ c ++ d ++ e ++ f ++ g ++ h ++ i ++ j ++ k ++ l ++ m ++ n ++ o)
regroup a b c d e f g h i j k l m n o = simp append_assoc

pub returns : goal.returns
returns c =
    let date = c.parts_at-date.result in
    let moment = c.seconds-seconds.result in
    let before = c.args.text.now.items in
    let name = c.in_ok-extend_from_slice.ensures.items ∙ ap (λ l. before ++ l) c.weekday_name.ensures in
    let front = c.in_ok-extend_from_slice-2.ensures.items ∙ ap (λ l. l ++ codes ", ") name in
    let day = c.in_ok-push_date.ensures
    ∙ ap (λ l. l ++ two_digits date.day ++ codes " " ++ month_name date.month ++ codes " " ++ four_digits date.year) front in
    let gap = c.in_ok-extend_from_slice-3.ensures.items ∙ ap (λ l. l ++ codes " ") day in
    let clock = c.in_ok-push_clock.ensures
    ∙ ap (λ l. l ++ two_digits (hour_at moment) ++ codes ":" ++ two_digits (minute_at moment) ++ codes ":" ++ two_digits
    (second_at moment)) gap in
    c.in_ok-extend_from_slice-4.ensures.items ∙ ap (λ l. l ++ codes " +0000") clock
    ∙ regroup before (weekday_name moment) (codes ", ") (two_digits date.day) (codes " ") (month_name date.month) (codes " ")
    (four_digits date.year) (codes " ") (two_digits (hour_at moment)) (codes ":") (two_digits (minute_at moment)) (codes ":")
    (two_digits (second_at moment)) (codes " +0000")
    ∙ ap (λ d. before ++ date_header_of d moment) c.parts_at-date.ensures.date
    ∙ ap (λ t. before ++ date_header t) c.seconds-seconds.ensures.value
