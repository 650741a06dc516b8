pub mod RoseLemmas
