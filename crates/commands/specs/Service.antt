-- The arguments of `serve`.
use Rattle.std.specs.Prelude.{◌≡◌, ◌≤◌, ◌<◌, ℕ, true, length}
use Rattle.std.specs.Char.{is_ascii_digit}
use Rattle.std.specs.List.{list_all}
use Rattle.std.specs.Str.Parse.{digits_value}
use Rattle.text_model.specs.Texts.{Text}
use Rattle.commands.specs.declared.service.Service.{Service}

-- the argument has only ASCII digits, and this is their value
pub record IsNumber (argument : Text) (n : ℕ) : Type 0 where
  pub some : 0 < length argument
  pub digits : list_all is_ascii_digit argument ≡ true
  pub value : n ≡ digits_value 10 argument

-- the arguments are the path of a registry file, a port, and the number of connections to serve
pub record IsServiceOf (path port_text count_text : Text) (service : Service) : Type 0 where
  pub at_path : service.registry.now ≡ path
  pub port_named : service.port_text.now ≡ port_text
  pub port_number : IsNumber port_text service.port
  pub port_limit : service.port ≤ 65535
  pub count_number : IsNumber count_text service.count
  pub one : 1 ≤ service.count
  pub count_limit : service.count ≤ 1000000
