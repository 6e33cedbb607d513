-- The group that an operator asks for.
use Rattle.model.specs.declared.change.NewGroup.{NewGroup}
use Rattle.text_names.specs.declared.values.GroupRequest.{GroupRequest}

-- as the change that makes it
abbrev pub group_of : GroupRequest → NewGroup
group_of request = record {
  name = request.name;
  status = request.status;
  description = request.description;
  moment = request.moment;
}
