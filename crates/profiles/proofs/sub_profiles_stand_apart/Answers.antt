use Rattle.profiles.proofs.Owners.{sub_profiles_apart}
use Rattle.profiles.proofs.sub_profiles_stand_apart.Goals as goal

pub returns : goal.returns
returns c = sub_profiles_apart
