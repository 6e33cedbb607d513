use Rattle.std.proofs.lemmas.Result.{IfErr-weaker}
use Rattle.spool_groups.proofs.Steps.{ok_map}
use Rattle.spool_opening.proofs.Nexts.{all_go_on}
use Rattle.spool_opening.proofs.next.replay_said.Goals as goal

pub returns-in-Alone-clause-ok : goal.returns-in-Alone-clause-ok
returns-in-Alone-clause-ok g c =
    rw (c.in-Group.is, c.in-Alone.is) (ok_map c.replay_named.result
    (λ goes R replayed its. goes c.args.host.now c.args.inodes (g.B.Blocks.blocks c.args.blocks.now) R c.requires.sorted replayed its)
    c.replay_named.ensures.ok)

pub returns-in-Alone-clause-damaged : goal.returns-in-Alone-clause-damaged
returns-in-Alone-clause-damaged g c =
    rw c.in-Group.is
    (IfErr-weaker c.replay_named.result _ _ (λ e none is R S replayed held next. none is c.args.host.now c.args.inodes
    (g.B.Blocks.blocks c.args.blocks.now) R S c.requires.sorted replayed held next) c.replay_named.ensures.damaged)

pub returns-in-Article-clause-damaged : goal.returns-in-Article-clause-damaged
returns-in-Article-clause-damaged g c =
    rw c.in-Article.is
    (IfErr-weaker c.replay_article.result _ _
    (λ e none is R S replayed held next.
    none is R replayed.indexed next.may
    (all_go_on c.args.host.now c.args.inodes (g.B.Blocks.blocks c.args.blocks.now) R S
    (record { text = c.in-Article.text.now; envelope = c.in-Article.envelope }) held next))
    c.replay_article.ensures.damaged)

pub returns-in-Expiry-clause-ok : goal.returns-in-Expiry-clause-ok
returns-in-Expiry-clause-ok g c =
    rw c.in-Expiry.is (ok_map c.replay_expiry.result
    (λ goes R replayed its. goes c.args.host.now c.args.inodes (g.B.Blocks.blocks c.args.blocks.now) R replayed its)
    c.replay_expiry.ensures.ok)
