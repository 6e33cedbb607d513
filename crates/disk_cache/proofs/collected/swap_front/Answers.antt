use Rattle.std.proofs.Common.{◌≡◌, inl, inr, ℕ, ◌+◌, ◌-◌, List, length, get_or, drop, ◌∙◌, ap, arith, length-take, length-drop}
use Rattle.std.proofs.lemmas.List.{get_or-drop, get_or-take, get_or-append_right}
use Rattle.disk_cache.proofs.Moving.{put_at, put_beside}
use Rattle.disk_cache.proofs.collected.swap_front.Goals as goal

pub swap_with_slice-requires : goal.swap_with_slice-requires
swap_with_slice-requires c = omega (
  arith,
  c.requires.place,
  c.requires.size,
  length-take (c.args.place + 4096 - c.args.place) (drop c.args.place c.args.octets.now),
  length-drop c.args.place c.args.octets.now,
  length-take 4096 c.args.others.now,
)

pub returns-clause-block : goal.returns-clause-block
returns-clause-block c i low =
    put_at c.args.octets.now c.swap_with_slice.new.self c.args.place (c.args.place + 4096 - c.args.place) i
    (omega (arith, c.requires.place))
    (omega (arith, low, c.requires.size, ap (λ (l : List ℕ). length l) c.swap_with_slice.ensures.after, length-take 4096 c.args.others.now))
    ∙ ap (λ (l : List ℕ). get_or l i 0) c.swap_with_slice.ensures.after ∙ get_or-take 4096 c.args.others.now i 0 low

pub returns-clause-beside : goal.returns-clause-beside
returns-clause-beside c p out =
    put_beside c.args.octets.now c.swap_with_slice.new.self c.args.place (c.args.place + 4096 - c.args.place) p
    (omega (arith, c.requires.place))
    (omega (arith, c.requires.size, ap (λ (l : List ℕ). length l) c.swap_with_slice.ensures.after, length-take 4096 c.args.others.now))
    (elim out [ inl below ↦ inl below | inr past ↦ inr (omega (arith, past)) ])

pub returns-clause-behind : goal.returns-clause-behind
returns-clause-behind c p high =
    let size : length c.swap_with_slice.new.other ≡ 4096 = omega (
      arith,
      c.requires.size,
      c.swap_with_slice.ensures.other_len,
      length-take 4096 c.args.others.now,
    ) in
    let place : 4096 + (p - 4096) ≡ p = omega (arith, high) in
    get_or-append_right c.swap_with_slice.new.other (drop 4096 c.args.others.now) 4096 p 0 size high
    ∙ get_or-drop 4096 c.args.others.now (p - 4096) 0 ∙ ap (λ (k : ℕ). get_or c.args.others.now k 0) place
