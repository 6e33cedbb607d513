use Rattle.std.proofs.Common.{◌≡◌, ◌∙◌, ◌++◌, ap, append_assoc}
use Rattle.std.proofs.lemmas.Result.{on_ok_weaker}
use Rattle.model.specs.Calendar.{two_digits, four_digits, hour_at, minute_at, second_at, date_reply, date_reply_of}
use Rattle.model.specs.Stream.{Octets}
use Rattle.text_dates.proofs.push_date_reply.Goals as goal

joined : (before year month day hour minute second : Octets)
    → before ++ (year ++ month ++ day) ++ (hour ++ minute ++ second) ≡ before ++ (year ++ month ++ day ++ hour ++ minute ++ second)
joined before year month day hour minute second = simp append_assoc

pub returns : goal.returns
returns c =
    let date = c.parts_at.result in
    let moment = c.seconds-seconds.result in
    let before = c.args.text.now.items in
    let clock : Octets = two_digits (hour_at moment) ++ two_digits (minute_at moment) ++ two_digits (second_at moment) in
    on_ok_weaker c.push_clock_digits.result (λ last.
    last ∙ ap (λ l. l ++ clock) c.in_ok-push_date_digits.ensures
    ∙ joined before (four_digits date.year) (two_digits date.month) (two_digits date.day) (two_digits (hour_at moment))
    (two_digits (minute_at moment)) (two_digits (second_at moment))
    ∙ ap (λ d. before ++ date_reply_of d moment) c.parts_at.ensures.date
    ∙ ap (λ m. before ++ date_reply m) c.seconds-seconds.ensures.value) c.push_clock_digits.ensures
