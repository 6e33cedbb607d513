-- What is released begins the replies of the plain server.
use Rattle.std.proofs.Common.{◌≡◌, List, [], ◌∷◌, ◌++◌, refl, sym, ◌∙◌, ap}
use Rattle.std.proofs.Common.{append_assoc}
use Rattle.std.specs.List.{concat}
use Rattle.model.specs.Service.{news_service}
use Rattle.model.specs.Stream.{Octets}
use Rattle.model.proofs.NewsLaws.{lawful}
use Rattle.synchrony.proofs.Theorems.{replies_are_fronts}
use mathlib.Core.List.{IsPrefix}
use Rattle.model_rfc.specs.Laws.{ReleasesAreRead}
use Rattle.synchrony.specs.Server.{sync}
use Rattle.synchrony.specs.Dependency.{survivors}
use Rattle.model_rfc.proofs.Sessions.{sessions_keep_step}

concat_both : (xs ys : List Octets) → concat (xs ++ ys) ≡ concat xs ++ concat ys
concat_both [] ys = refl
concat_both (x ∷ xs) ys = ap (λ (s : Octets). x ++ s) (concat_both xs ys) ∙ sym (append_assoc x (concat xs) (concat ys))

-- what begins some of the first replies begins all of them
front_of : (released : Octets) (some all : List Octets) → IsPrefix released (concat some) → IsPrefix some all
    → IsPrefix released (concat all)
front_of released some all first second = (
  first.0 ++ concat second.0,
  sym (append_assoc released first.0 (concat second.0)) ∙ ap (λ (s : Octets). s ++ concat second.0) first.1
      ∙ sym (concat_both some second.0) ∙ ap concat second.1,
)

pub releases_are_read : ReleasesAreRead
releases_are_read host spool inputs trace session released p recovered enough synchronous is may =
    let replies : List Octets = ((sync (news_service host) spool inputs trace).connections session).replies in
    let keeps = sessions_keep_step host spool inputs trace session is may in
    let fronts = (replies_are_fronts (news_service host) (lawful host) spool inputs trace p session enough).1 in
    let left : List Octets =
    ((sync (news_service host) spool inputs (survivors (news_service host) spool inputs trace p)).connections session).replies in
    (keeps, keeps.read_so_far (released session) (front_of (released session) left replies (synchronous.begins session) fronts))
